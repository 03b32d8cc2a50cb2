-- The view of the names in the open objects in contracts.
use Rattle.std.specs.Prelude.{◌≡◌, ◌+◌, ◌≤◌, ◌||◌, ℕ, Bool, true, false, List, [], ◌∷◌, ◌++◌, bytes_eq, drop, length, take}
use Rattle.std.specs.Borrow.{Bor}
use Rattle.std.specs.BTreeSet.{BTreeSet, contains_by}
use Rattle.std.specs.Cmp.Lexicographic.{slice_cmp}
use Rattle.std.specs.Ordering.{nat_cmp}
use Rattle.std.specs.List.{list_any}
use Rattle.yaml_json.specs.Names.{IsNewName}
use Rattle.yaml_json.specs.declared.names.{Level.Level, Names.Names}

-- a list and a set have these names between them, and no others
abbrev pub HasNames : List (Bor (List ℕ)) → BTreeSet (Bor (List ℕ)) → List (List ℕ) → Type 0
HasNames few many names =
    (name : List ℕ) → (list_any (λ k. bytes_eq k.now name) few || contains_by (λ k. slice_cmp nat_cmp name k.now) many) ≡ list_any (bytes_eq name) names

-- some levels, the last of them first, have each these names; the list ends with those of the last
abbrev pub HaveNames : {A : Type 0} → List (Bor (List ℕ)) → List (Level A) → List (List (List ℕ)) → Type 0
HaveNames few levels [] = levels ≡ []
HaveNames {A} few levels (names ∷ outer) =
    (init : List (Level A)) × (last : Level A) × (levels ≡ init ++ last ∷ []) × (last.first ≤ length few) × HasNames (drop last.first few) last.many names
    × HaveNames (take last.first few) init outer

-- These are the names of the arrays and objects that are open, if names are kept.
abbrev pub HoldsNames : {A : Type 0} → List (List (List ℕ)) → Names A → Type 0
HoldsNames levels held = held.are_kept ≡ true → HaveNames held.few.items held.levels.items levels

-- a name is added to those of the innermost; it is new to them, or it isn't
abbrev pub AddsName : {A : Type 0} → List (List ℕ) → List (List (List ℕ)) → List ℕ → Bool → Names A → Type 0
AddsName names levels name new held =
    HoldsNames ((name ∷ names) ∷ levels) held
    × (new ≡ true → held.are_kept ≡ true → IsNewName names name)
    × (new ≡ false → (held.are_kept ≡ true) × (IsNewName names name → ⊥))

-- a name was added to the innermost object; it is new, or it isn't
pub record NameAdded {A : Type 0} (old : Names A) (name : List ℕ) (new : Bool) (now : Names A) : Type 0 where
  pub kept : now.are_kept ≡ old.are_kept
  pub adds : (names : List (List ℕ)) (levels : List (List (List ℕ))) → HoldsNames (names ∷ levels) old → AddsName names levels name new now
  pub as_long : length now.levels.items ≡ length old.levels.items

-- an array or object was entered
pub record NamesEntered {A : Type 0} (old now : Names A) : Type 0 where
  pub kept : now.are_kept ≡ old.are_kept
  pub holds : (levels : List (List (List ℕ))) → HoldsNames levels old → HoldsNames ([] ∷ levels) now
  pub longer : old.are_kept ≡ true → length now.levels.items ≡ length old.levels.items + 1
