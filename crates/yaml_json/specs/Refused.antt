-- The meaning of an error for the text.
use Rattle.std.specs.Prelude.{◌≡◌, ℕ, ◌<◌, Bool, true, false, Some, Result, Ok, Err, List, [], ◌∷◌, ◌++◌, nat_eq}
use Rattle.std.specs.List.{starts_with}
use Rattle.json.specs.Strict.{HasUniqueKeys}
use Rattle.json.specs.Token.{Token, key}
use Rattle.json.specs.Lex.{tokens}
use Rattle.json.specs.Json.{Json, value}
use Rattle.json.specs.Tree.{depth as nesting, json_tokens}
use Rattle.yaml_base.specs.Prefix.{IsPrefix}
use Rattle.yaml_json.specs.Begins.{BeginsAllowed, BeginsSome, BeginsWithinDepth, NoneGoesOn}
use Rattle.yaml_json.specs.declared.error.JsonError.{JsonError}
use Rattle.yaml_json.specs.declared.error.JsonError.TheVariants as errors
use Rattle.yaml_json.specs.declared.values.Stop.{Stop}
use Rattle.yaml_json.specs.declared.values.Stop.TheVariants as stops

-- the text stops the writing, and not the writer
abbrev pub IsByText : Stop → Type 0
IsByText (stops.Failed error) = ⊥
IsByText _ = Unit {0}

-- the text was refused
abbrev pub RefusesText : Result (Unit {0}) Stop → Type 0
RefusesText (Ok done) = ⊥
RefusesText (Err stop) = IsByText stop

-- an error that isn't the writer's
abbrev pub IsOfText : JsonError → Type 0
IsOfText (errors.Emitter error) = ⊥
IsOfText _ = Unit {0}

-- an error by which the text isn't JSON nested at most `depth` deep
abbrev pub DeniesJson : JsonError → Type 0
DeniesJson (errors.NotJson position says) = Unit {0}
DeniesJson (errors.Marked position) = Unit {0}
DeniesJson (errors.TooDeep position) = Unit {0}
DeniesJson (errors.DuplicateName position) = ⊥
DeniesJson (errors.Emitter error) = ⊥

-- ---- why

-- The tokens are those of an allowed value up to one that isn't possible there, or up to their end, which comes too early.
pub record TokensBreakOff (depth : ℕ) (unique : Bool) (all : List Token) : Type 0 where
  pub taken : List Token
  pub left : List Token
  pub parts : taken ++ left ≡ all
  pub begins : BeginsAllowed depth unique taken
  pub breaks : NoneGoesOn taken left

-- the tokens are those of an allowed value up to one with which every value nests deeper
pub record OpensTooDeep (depth : ℕ) (unique : Bool) (all : List Token) : Type 0 where
  pub taken : List Token
  pub next : Token
  pub left : List Token
  pub parts : taken ++ next ∷ left ≡ all
  pub begins : BeginsAllowed depth unique taken
  pub some : BeginsSome (taken ++ next ∷ [])
  pub deeper : (json : Json) → IsPrefix (taken ++ next ∷ []) (json_tokens json) → depth < nesting json

-- names are to come once, and the tokens are those of an allowed value up to a name with which every value has one twice in an
-- object
pub record NamesTwice (depth : ℕ) (unique : Bool) (all : List Token) : Type 0 where
  pub wanted : unique ≡ true
  pub taken : List Token
  pub name : List ℕ
  pub left : List Token
  pub parts : taken ++ key name ∷ left ≡ all
  pub begins : BeginsAllowed depth unique taken
  pub some : BeginsWithinDepth depth (taken ++ key name ∷ [])
  pub twice : (json : Json) → IsPrefix (taken ++ key name ∷ []) (json_tokens json) → HasUniqueKeys json → ⊥

-- ---- why, after these tokens, with those ahead

-- The tokens before are those of an allowed value, and the next isn't possible there, or they end too early.
pub record TokensBreakAt (depth : ℕ) (unique : Bool) (taken left : List Token) : Type 0 where
  pub begins : BeginsAllowed depth unique taken
  pub breaks : NoneGoesOn taken left

-- they are those of an allowed value, and with the next every value nests deeper
pub record OpensTooDeepAt (depth : ℕ) (unique : Bool) (taken left : List Token) : Type 0 where
  pub next : Token
  pub after : List Token
  pub first : left ≡ next ∷ after
  pub begins : BeginsAllowed depth unique taken
  pub some : BeginsSome (taken ++ next ∷ [])
  pub deeper : (json : Json) → IsPrefix (taken ++ next ∷ []) (json_tokens json) → depth < nesting json

-- they are those of an allowed value, and the next is a name with which every value has one twice in an object
pub record NamesTwiceAt (depth : ℕ) (unique : Bool) (taken left : List Token) : Type 0 where
  pub wanted : unique ≡ true
  pub name : List ℕ
  pub after : List Token
  pub first : left ≡ key name ∷ after
  pub begins : BeginsAllowed depth unique taken
  pub some : BeginsWithinDepth depth (taken ++ key name ∷ [])
  pub twice : (json : Json) → IsPrefix (taken ++ key name ∷ []) (json_tokens json) → HasUniqueKeys json → ⊥

-- no tokens have two of these faults
abbrev pub FaultsDiffer : Type 0
FaultsDiffer =
    (depth : ℕ) (unique : Bool) (all : List Token)
    → (TokensBreakOff depth unique all → OpensTooDeep depth unique all → ⊥)
    × (TokensBreakOff depth unique all → NamesTwice depth unique all → ⊥)
    × (OpensTooDeep depth unique all → NamesTwice depth unique all → ⊥)

-- ---- that the text isn't JSON

-- these tokens aren't one value nested at most `depth` deep
abbrev pub IsNoValue : (depth : ℕ) → List Token → Type 0
IsNoValue depth before = (json : Json) → value depth before ≡ Some (json, []) → ⊥

-- the text isn't JSON nested at most `depth` deep
abbrev pub IsNotJson : (depth : ℕ) → (text : List ℕ) → Type 0
IsNotJson depth text = IsNoValue depth (tokens text)

-- the text begins with a byte order mark
abbrev pub is_marked : List ℕ → Bool
is_marked text = starts_with nat_eq text (239 ∷ 187 ∷ 191 ∷ [])

-- The error explains the text: it breaks off, without a byte order mark at its start or with one; it opens too many arrays and objects; or
-- a name comes twice.
abbrev pub ExplainsError : (depth : ℕ) → (unique : Bool) → (text : List ℕ) → JsonError → Type 0
ExplainsError depth unique text (errors.NotJson position says) = TokensBreakOff depth unique (tokens text) × (is_marked text ≡ false)
ExplainsError depth unique text (errors.Marked position) = TokensBreakOff depth unique (tokens text) × (is_marked text ≡ true)
ExplainsError depth unique text (errors.TooDeep position) = OpensTooDeep depth unique (tokens text)
ExplainsError depth unique text (errors.DuplicateName position) = NamesTwice depth unique (tokens text)
ExplainsError depth unique text (errors.Emitter error) = Unit {0}

-- The error explains the tokens of the text that were taken, and those ahead. If it is the writer's, some value nested at most `depth` deep
-- begins with the tokens that were taken.
abbrev pub TokensStopAt : (depth : ℕ) → (unique : Bool) → (text : List ℕ) → (taken left : List Token) → JsonError → Type 0
TokensStopAt depth unique text taken left (errors.NotJson position says) = TokensBreakAt depth unique taken left × (is_marked text ≡ false)
TokensStopAt depth unique text taken left (errors.Marked position) = TokensBreakAt depth unique taken left × (is_marked text ≡ true)
TokensStopAt depth unique text taken left (errors.TooDeep position) = OpensTooDeepAt depth unique taken left
TokensStopAt depth unique text taken left (errors.DuplicateName position) = NamesTwiceAt depth unique taken left
TokensStopAt depth unique text taken left (errors.Emitter error) = BeginsWithinDepth depth taken

-- If names must be unique, no object of the text has one twice.
abbrev pub HasNamesOnce : (unique : Bool) → (text : List ℕ) → Type 0
HasNamesOnce unique text = unique ≡ true → (depth : ℕ) → (json : Json) → value depth (tokens text) ≡ Some (json, []) → HasUniqueKeys json

-- If names must be unique, no object of any of these texts has one twice.
abbrev pub HaveNamesOnce : (unique : Bool) → List (List ℕ) → Type 0
HaveNamesOnce unique [] = Unit {0}
HaveNamesOnce unique (text ∷ texts) = HasNamesOnce unique text × HaveNamesOnce unique texts
