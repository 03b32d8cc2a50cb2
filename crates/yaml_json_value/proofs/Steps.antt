-- One token more of a walk.
use Rattle.yaml_base.proofs.Common.{List, [], ◌∷◌, ◌++◌, refl, ◌≡◌, ap, append_assoc, subst, sym, ◌∙◌, option_and_then, Option, None, Some}
use Rattle.std.proofs.lemmas.List.Elements.{All-nil, All-push}
use Rattle.std.specs.Prelude.{Result, Ok, Err, OnOk}
use Rattle.json.specs.Token.{Token}
use Rattle.yaml_base.specs.values.TypedValues.{TypedValue}
use Rattle.yaml_value.specs.{OpenLevels.OpenLevel, SeenValues.seen_value, declared.levels.Level.Level, declared.value.Value.Value}
use Rattle.yaml_json_value.specs.Standing.{ValueStanding, run, take_token, whole, within}
use Rattle.yaml_json_value.specs.Typed.{AreIntegers, IsIntegerToken}
use Rattle.yaml_json_value.specs.Walked.{EndsAt, IsRoot, ReadsNoToken, StopsAtOther, Taken, WalkedTo}
use Rattle.yaml_json_value.specs.declared.error.Stop.{Stop}
use Rattle.yaml_json_value.specs.declared.error.Stop.TheVariants as stop

-- the state of the walk after a token
runs_on : (start ahead left : List Token) (token : Token) (levels : List OpenLevel) (now : Option ValueStanding) → WalkedTo start ahead levels
    → ahead ≡ token ∷ left
    → take_token token levels ≡ now → run start (within []) ≡ option_and_then (run left) now
runs_on start ahead left token levels now walked first taken =
    walked.runs ∙ ap (λ (ts : List Token). run ts (within levels)) first ∙ ap (option_and_then (run left)) taken

-- the tokens before, with one more
more_parts : (all ahead left before : List Token) (token : Token) → before ++ ahead ≡ all → ahead ≡ token ∷ left → (before ++ token ∷ []) ++ left ≡ all
more_parts all ahead left before token parts first =
    append_assoc before (token ∷ []) left ∙ ap (λ (ts : List Token). before ++ ts) (sym first) ∙ parts

pub step_on : (start ahead left : List Token) (token : Token) (levels after : List OpenLevel) → WalkedTo start ahead levels → ahead ≡ token ∷ left
    → take_token token levels ≡ Some (within after) → IsIntegerToken token → WalkedTo start left after
step_on start ahead left token levels after walked first taken integer =
    record {
      before = walked.before ++ token ∷ [];
      parts = more_parts start ahead left walked.before token walked.parts first;
      integers = All-push IsIntegerToken walked.before token walked.integers integer;
      runs = runs_on start ahead left token levels (Some (within after)) walked first taken;
    }

pub begins_walk : (all : List Token) → WalkedTo all all []
begins_walk all = record { before = []; parts = refl; integers = All-nil IsIntegerToken; runs = refl }

none_apart : (root : TypedValue) (found : Option ValueStanding) → found ≡ None → found ≡ Some (whole root) → ⊥
none_apart root found none is = cc

within_apart : (root : TypedValue) (levels : List OpenLevel) (found : Option ValueStanding) → found ≡ Some (within levels) → found ≡ Some (whole root) → ⊥
within_apart root levels found none is = cc

-- no token was read
pub ends_short : (A : Type 0) (start ahead : List Token) (levels : List OpenLevel) (root : TypedValue) (why : Stop) → WalkedTo start ahead levels
    → ReadsNoToken ahead why → run start (within []) ≡ Some (whole root) → IsRoot {A = A} root (Err why)
ends_short A start ahead levels root stop.Misplaced walked none runs =
    within_apart root levels (run start (within [])) (walked.runs ∙ ap (λ (ts : List Token). run ts (within levels)) none) runs
ends_short A start ahead levels root _ walked none runs = tt

pub no_other : (A : Type 0) (all ahead from : List Token) (why : Stop) → ReadsNoToken ahead why → StopsAtOther {A = A} all from (Err why)
no_other A all ahead from stop.NotInteger none = absurd none
no_other A all ahead from _ none = tt

-- a token was refused
pub refused : {A : Type 0} (start ahead left : List Token) (token : Token) (levels : List OpenLevel) (after : List (Level A)) (root : TypedValue)
    (why : Stop)
    → WalkedTo start ahead levels → ahead ≡ token ∷ left → Taken token levels after (Err why) → run start (within []) ≡ Some (whole root)
    → IsRoot {A = A} root (Err why)
refused start ahead left token levels after root stop.Misplaced walked first taken runs =
    none_apart root (run start (within [])) (runs_on start ahead left token levels None walked first taken) runs
refused start ahead left token levels after root _ walked first taken runs = tt

pub other_first : {A : Type 0} (start ahead left from : List Token) (token : Token) (levels : List OpenLevel) (after : List (Level A)) (why : Stop)
    → WalkedTo start ahead levels → from ≡ ahead → ahead ≡ token ∷ left → Taken token levels after (Err why) → StopsAtOther {A = A} start from (Err why)
other_first start ahead left from token levels after stop.NotInteger walked at first (digits, is, none) =
    record {
      before = walked.before;
      parts = ap (λ (ts : List Token). walked.before ++ ts) at ∙ walked.parts;
      integers = walked.integers;
      digits = digits;
      after = left;
      first = at ∙ first ∙ ap (λ (t : Token). t ∷ left) is;
      none = none;
    }
other_first start ahead left from token levels after _ walked at first taken = tt

-- a value is whole
pub ends_whole : {A : Type 0} (start ahead left : List Token) (token : Token) (levels : List OpenLevel) (found root : TypedValue)
    (answer : Result (Value A) Stop)
    → WalkedTo start ahead levels → ahead ≡ token ∷ left → take_token token levels ≡ Some (whole found) → EndsAt left found answer
    → run start (within []) ≡ Some (whole root) → IsRoot root answer
ends_whole start ahead left token levels found root (Ok value) walked first taken ends runs =
    same root (runs_on start ahead left token levels (Some (whole found)) walked first taken
    ∙ ap (λ (ts : List Token). run ts (whole found)) ends.0) runs
  where
    inside : (root : TypedValue) → ◌≡◌ {A = Option ValueStanding} (Some (whole found)) (Some (whole root)) → found ≡ root
    inside root e = cc

    same : (root : TypedValue) → run start (within []) ≡ Some (whole found) → run start (within []) ≡ Some (whole root) → seen_value value ≡ root
    same root one other = ends.1 ∙ inside root (sym one ∙ other)
ends_whole start ahead left token levels found root (Err stop.Misplaced) walked first taken (one, more, is) runs =
    none_apart root (run start (within []))
    (runs_on start ahead left token levels (Some (whole found)) walked first taken ∙ ap (λ (ts : List Token). run ts (whole found)) is) runs
ends_whole start ahead left token levels found root _ walked first taken ends runs = tt

pub ends_integers : {A : Type 0} (start ahead left : List Token) (token : Token) (levels : List OpenLevel) (found : TypedValue)
    (answer : Result (Value A) Stop)
    → WalkedTo start ahead levels → ahead ≡ token ∷ left → IsIntegerToken token → EndsAt left found answer → OnOk answer (AreIntegers start)
ends_integers start ahead left token levels found (Ok value) walked first integer ends =
    subst AreIntegers
    (ap (λ (ts : List Token). walked.before ++ token ∷ ts) (sym ends.0) ∙ ap (λ (ts : List Token). walked.before ++ ts) (sym first) ∙ walked.parts)
    (All-push IsIntegerToken walked.before token walked.integers integer)
ends_integers start ahead left token levels found (Err why) walked first integer ends = tt

pub ends_other : {A : Type 0} (all from left : List Token) (found : TypedValue) (answer : Result (Value A) Stop) → EndsAt left found answer
    → StopsAtOther all from answer
ends_other all from left found (Err stop.NotInteger) ends = absurd ends
ends_other all from left found _ ends = tt

-- a token is left
pub some_left : (ahead : List Token) → (ahead ≡ [] → ⊥) → (first : Token) × (more : List Token) × (ahead ≡ first ∷ more)
some_left [] any = absurd (any refl)
some_left (first ∷ more) any = (first, more, refl)
