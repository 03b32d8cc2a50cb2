-- Rows as lists of cases, all checked by one `refl`: the result of a function for each.
use Rattle.yaml_base.proofs.Common.{is_none, Option, Some, Bool, List, list_all, map, ◌≡◌}

-- an argument, and its result
abbrev pub Gives : {A B : Type 0} → (A → B) → List (A × B) → Type 0
Gives {A} {B} give cases = map {A = A × B} (λ row. give row.0) cases ≡ map {A = A × B} (λ row. row.1) cases

-- two arguments, and their result
abbrev pub GivesOfTwo : {A B C : Type 0} → (A → B → C) → List (A × B × C) → Type 0
GivesOfTwo {A} {B} {C} give cases = map {A = A × B × C} (λ row. give row.0 row.1) cases ≡ map {A = A × B × C} (λ row. row.2) cases

-- the result of two arguments reads as the second of them
abbrev pub ReadBack : {A B C : Type 0} → (C → Option B) → List (A × B × C) → Type 0
ReadBack {A} {B} {C} read cases = map {A = A × B × C} (λ row. read row.2) cases ≡ map {A = A × B × C} (λ row. Some row.1) cases

-- three arguments
abbrev pub GivesOfThree : {A B C D : Type 0} → (A → B → C → D) → List (A × B × C × D) → Type 0
GivesOfThree {A} {B} {C} {D} give cases =
    map {A = A × B × C × D} (λ row. give row.0 row.1 row.2) cases ≡ map {A = A × B × C × D} (λ row. row.3) cases

-- five arguments
abbrev pub GivesOfFive : {A B C D E F : Type 0} → (A → B → C → D → E → F) → List (A × B × C × D × E × F) → Type 0
GivesOfFive {A} {B} {C} {D} {E} {F} give cases =
    map {A = A × B × C × D × E × F} (λ row. give row.0 row.1 row.2 row.3 row.4) cases ≡ map {A = A × B × C × D × E × F} (λ row. row.5) cases

-- none of these texts is read
abbrev pub reads_none : {A B : Type 0} → (A → Option B) → List A → Bool
reads_none read texts = list_all (λ text. is_none (read text)) texts
