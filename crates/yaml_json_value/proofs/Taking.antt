-- A token's answer, by the state of the walk after it.
use Rattle.yaml_base.proofs.Common.{List, [], ◌∷◌, ◌++◌, refl, ◌≡◌, ap, subst, sym, ◌∙◌, Option, None, Some, ℕ}
use Rattle.std.specs.Prelude.{Result, Ok, Err, Vec}
use Rattle.json.specs.Token.{Token}
use Rattle.yaml_base.specs.values.TypedValues.{TypedValue}
use Rattle.yaml_value.specs.OpenLevels.{OpenLevel, seen_level, seen_levels, with_value}
use Rattle.yaml_value.specs.{declared.levels.Level.Level, declared.value.Value.Value}
use Rattle.yaml_value.proofs.SeenLevels.{level_more}
use Rattle.yaml_json_value.specs.Standing.{ValueStanding, end_list, end_map, give, name_member, take_token, within}
use Rattle.yaml_json_value.specs.Typed.{IsIntegerToken}
use Rattle.yaml_json_value.specs.Walked.{IsIntegerIn, IsText, StandsAt, Taken}
use Rattle.yaml_json_value.specs.declared.error.Stop.{Stop}
use Rattle.yaml_json_value.specs.declared.error.Stop.TheVariants as stop
use Rattle.yaml_value.specs.declared.levels.Level.TheVariants as code

pub taken_as : {A : Type 0} (token : Token) (before : List OpenLevel) (levels : List (Level A)) (due : Option ValueStanding)
    (answer : Result (Option (Value A)) Stop)
    → take_token token before ≡ due → IsIntegerToken token → StandsAt due levels answer → Taken token before levels answer
taken_as token before levels due (Ok (Some value)) is integer stands = (is ∙ stands, integer)
taken_as token before levels due (Ok None) is integer stands = (is ∙ stands, integer)
taken_as token before levels due (Err stop.Misplaced) is integer stands = is ∙ stands
taken_as token before levels due (Err stop.NotInteger) is integer stands = absurd stands
taken_as token before levels due (Err stop.Memory) is integer stands = tt

-- the facts that follow for the innermost level, taken from the others
pub on_innermost : {A : Type 0} (after : List OpenLevel → Option ValueStanding) (old new later : List (Level A)) (level : Level A)
    (answer : Result (Option (Value A)) Stop) → old ≡ new ++ level ∷ [] → StandsAt (after (seen_level level ∷ seen_levels new)) later answer
    → StandsAt (after (seen_levels old)) later answer
on_innermost after old new later level answer is stands =
    subst (λ (levels : List OpenLevel). StandsAt (after levels) later answer) (sym (level_more new old level is)) stands

-- no text, and no integer
pub no_text : {A : Type 0} (text : List ℕ) (token : Token) (before : List OpenLevel) (levels : List (Level A)) (why : Stop)
    → IsText {A = A} text (Err why) → Taken token before levels (Err why)
no_text text token before levels stop.Memory none = tt
no_text text token before levels _ none = absurd none

pub no_integer : {A : Type 0} (digits : List ℕ) (before : List OpenLevel) (levels : List (Level A)) (why : Stop)
    → IsIntegerIn digits (Err why) → Taken (Token.number digits) before levels (Err why)
no_integer digits before levels stop.NotInteger none = (digits, refl, none)
no_integer digits before levels _ none = absurd none

-- a level was opened, or not
pub entered : {A : Type 0} (level : Level A) (old new : List (Level A)) (answer : Result (Option (Value A)) Stop) → answer ≡ Ok None
    → new ≡ old ++ level ∷ [] → StandsAt (Some (within (seen_level level ∷ seen_levels old))) new answer
entered level old new answer is items =
    subst (λ (r : Result (Option (Value _)) Stop). StandsAt (Some (within (seen_level level ∷ seen_levels old))) new r) (sym is)
    (ap (λ (levels : List OpenLevel). Some (within levels)) (sym (level_more old new level items)))

pub not_entered : {A : Type 0} (due : Option ValueStanding) (levels : List (Level A)) (answer : Result (Option (Value A)) Stop) → answer ≡ Err stop.Memory
    → StandsAt due levels answer
not_entered due levels answer is = subst (λ (r : Result (Option (Value _)) Stop). StandsAt due levels r) (sym is) tt

-- ---- a level that is none of the kind that is asked for

pub no_list : {A : Type 0} (level : Level A) (outer : List OpenLevel) → ((items : Vec (Value A) A) → level ≡ code.Items items → ⊥)
    → end_list (seen_level level ∷ outer) ≡ None
no_list (code.Items items) outer other = absurd (other items refl)
no_list _ outer other = refl

pub no_map : {A : Type 0} (level : Level A) (outer : List OpenLevel) → ((members : Vec (Value A × Value A) A) → level ≡ code.Pairs members → ⊥)
    → end_map (seen_level level ∷ outer) ≡ None
no_map (code.Pairs members) outer other = absurd (other members refl)
no_map _ outer other = refl

pub no_name : {A : Type 0} (level : Level A) (outer : List OpenLevel) (name : TypedValue)
    → ((members : Vec (Value A × Value A) A) → level ≡ code.Pairs members → ⊥) → name_member (seen_level level ∷ outer) name ≡ None
no_name (code.Pairs members) outer name other = absurd (other members refl)
no_name _ outer name other = refl

-- a level that has a value more
pub value_given : {A : Type 0} (level more : Level A) (outer : List OpenLevel) (value : TypedValue)
    → ((members : Vec (Value A × Value A) A) → level ≡ code.Pairs members → ⊥) → seen_level more ≡ with_value (seen_level level) value
    → give (seen_level level ∷ outer) value ≡ Some (within (seen_level more ∷ outer))
value_given (code.Pairs members) more outer value other is = absurd (other members refl)
value_given _ more outer value other is = ap (λ (inner : OpenLevel). Some (within (inner ∷ outer))) (sym is)
