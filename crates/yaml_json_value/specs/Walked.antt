-- The results of the walk over tokens, as they are seen.
use Rattle.std.specs.Prelude.{◌≡◌, ℕ, ℤ, true, Option, None, Some, Result, Ok, Err, List, [], ◌∷◌, ◌++◌}
use Rattle.std.specs.Str.{chars}
use Rattle.json.specs.Token.{Token}
use Rattle.yaml_base.specs.values.TypedValues.{TypedValue, most_nested, text_value}
use Rattle.yaml_emitter.specs.Given.{seen_settings}
use Rattle.yaml_json.specs.declared.settings.JsonSettings.{JsonSettings}
use Rattle.yaml_writer.specs.Given.{given_for_values}
use Rattle.yaml_value.specs.{OpenLevels.OpenLevel, OpenLevels.seen_levels, SeenValues.seen_value}
use Rattle.yaml_value.specs.{declared.keys.Keys.Keys, declared.levels.Level.Level, declared.value.Value.Value}
use Rattle.yaml_json_value.specs.Standing.{ValueStanding, whole, within, run, take_token}
use Rattle.yaml_json_value.specs.Typed.{AreIntegers, IsFromOtherNumber, IsIntegerText, IsIntegerToken, integer_of, names_differ}
use Rattle.yaml_json_value.specs.declared.error.Stop.{Stop}
use Rattle.yaml_json_value.specs.declared.error.Stop.TheVariants as stop

-- the digits are those of this integer, or of none, unless memory ran out
abbrev pub IsIntegerIn : (digits : List ℕ) → Result ℤ Stop → Type 0
IsIntegerIn digits (Ok number) = IsIntegerText digits × (number ≡ integer_of digits)
IsIntegerIn digits (Err stop.Misplaced) = ⊥
IsIntegerIn digits (Err stop.NotInteger) = IsIntegerText digits → ⊥
IsIntegerIn digits (Err stop.Memory) = ⊥

-- the walk has this state, unless memory ran out, or a number is no integer
abbrev pub StandsAt : {A : Type 0} → Option ValueStanding → List (Level A) → Result (Option (Value A)) Stop → Type 0
StandsAt due levels (Ok (Some value)) = due ≡ Some (whole (seen_value value))
StandsAt due levels (Ok None) = due ≡ Some (within (seen_levels levels))
StandsAt due levels (Err stop.Misplaced) = due ≡ None
StandsAt due levels (Err stop.NotInteger) = ⊥
StandsAt due levels (Err stop.Memory) = Unit {0}

-- the token is a number, and no integer
abbrev pub IsOtherNumber : Token → Type 0
IsOtherNumber token = (digits : List ℕ) × (token ≡ Token.number digits) × (IsIntegerText digits → ⊥)

-- a token's answer: the state of the walk; whether it is an integer, if it is a number
abbrev pub Taken : {A : Type 0} → Token → List OpenLevel → List (Level A) → Result (Option (Value A)) Stop → Type 0
Taken token before levels (Ok (Some value)) = (take_token token before ≡ Some (whole (seen_value value))) × IsIntegerToken token
Taken token before levels (Ok None) = (take_token token before ≡ Some (within (seen_levels levels))) × IsIntegerToken token
Taken token before levels (Err stop.Misplaced) = take_token token before ≡ None
Taken token before levels (Err stop.NotInteger) = IsOtherNumber token
Taken token before levels (Err stop.Memory) = Unit {0}

-- the value is this one; nothing is misplaced
abbrev pub IsRoot : {A : Type 0} → TypedValue → Result (Value A) Stop → Type 0
IsRoot root (Ok value) = seen_value value ≡ root
IsRoot root (Err stop.Misplaced) = ⊥
IsRoot root (Err stop.NotInteger) = Unit {0}
IsRoot root (Err stop.Memory) = Unit {0}

-- if a number is no integer, these tokens of all are those from it on
abbrev pub StopsAtOther : {A : Type 0} → (all from : List Token) → Result (Value A) Stop → Type 0
StopsAtOther all from (Err stop.NotInteger) = IsFromOtherNumber all from
StopsAtOther all from _ = Unit {0}

-- of all tokens those ahead are left, those before have integers alone, and the walk is within these levels
pub record WalkedTo (all ahead : List Token) (levels : List OpenLevel) : Type 0 where
  pub before : List Token
  pub parts : before ++ ahead ≡ all
  pub integers : AreIntegers before
  pub runs : run all (within []) ≡ run ahead (within levels)

-- the value is this text, unless memory ran out
abbrev pub IsText : {A : Type 0} → List ℕ → Result (Value A) Stop → Type 0
IsText text (Ok value) = seen_value value ≡ text_value (chars text)
IsText text (Err stop.Misplaced) = ⊥
IsText text (Err stop.NotInteger) = ⊥
IsText text (Err stop.Memory) = Unit {0}

-- no token was read: there is none, unless memory ran out
abbrev pub ReadsNoToken : (ahead : List Token) → Stop → Type 0
ReadsNoToken ahead stop.Misplaced = ahead ≡ []
ReadsNoToken ahead stop.NotInteger = ⊥
ReadsNoToken ahead stop.Memory = Unit {0}

-- the value is this one, and no token is left; or one is
abbrev pub EndsAt : {A : Type 0} → List Token → TypedValue → Result (Value A) Stop → Type 0
EndsAt ahead found (Ok value) = (ahead ≡ []) × (seen_value value ≡ found)
EndsAt ahead found (Err stop.Misplaced) = (first : Token) × (more : List Token) × (ahead ≡ first ∷ more)
EndsAt ahead found (Err stop.NotInteger) = ⊥
EndsAt ahead found (Err stop.Memory) = ⊥

-- the settings for values, in flow, with a depth of 1,000 and each name once, unless keys may repeat
pub record IsForValues (mode : Keys) (settings : JsonSettings) : Type 0 where
  pub emitter : seen_settings settings.values.emitter ≡ given_for_values
  pub flow : settings.values.flow ≡ true
  pub depth : settings.values.depth ≡ most_nested
  pub names : settings.unique_names ≡ names_differ mode
