-- The places of errors in a text.
use Rattle.std.specs.Prelude.{◌≡◌, ◌↔◌, ℕ, ◌+◌, ◌<◌, ◌≤◌, Option, None, Some, List, [], ◌∷◌, ◌++◌, drop, length, take}
use Rattle.std.specs.Str.{IsValidUpTo}
use Rattle.json.specs.Json.{Json}
use Rattle.json.specs.Lex.{Lexeme, between, fresh, lex, punctuate}
use Rattle.json.specs.Strict.{HasUniqueKeys}
use Rattle.json.specs.Tree.{depth as nesting, json_tokens}
use Rattle.yaml_base.specs.Positions.{IsPositionOf}
use Rattle.yaml_json.specs.Ahead.{IsTrimmed}
use Rattle.yaml_json.specs.Expected.{Names, expected_at}
use Rattle.yaml_json.specs.Faults.{said_at}
use Rattle.yaml_json.specs.Lexing.{MayBegin, mode_over}
use Rattle.yaml_json.specs.declared.error.JsonError.{JsonError}
use Rattle.yaml_json.specs.declared.error.JsonError.TheVariants as errors
use Rattle.yaml_json.specs.declared.error.StreamError.{StreamError}
use Rattle.yaml_json.specs.declared.error.StreamError.TheVariants as faults
use Rattle.yaml_base.specs.declared.places.Position.{Position}

-- The error, if it has a position, is at this offset of the text.
abbrev pub IsAt : (text : List ℕ) → (at : ℕ) → JsonError → Type 0
IsAt text at (errors.NotJson position says) = IsPositionOf text at position
IsAt text at (errors.Marked position) = IsPositionOf text at position
IsAt text at (errors.TooDeep position) = IsPositionOf text at position
IsAt text at (errors.DuplicateName position) = IsPositionOf text at position
IsAt text at (errors.Emitter error) = Unit {0}

-- The offset of an error by that of the lexeme that isn't possible.
abbrev pub offset_by : (text : List ℕ) → (lexeme : ℕ) → JsonError → ℕ
offset_by text lexeme (errors.NotJson position says) = (said_at text lexeme).1
offset_by text lexeme _ = lexeme

-- If the text is no JSON, the error says what is wrong with the lexeme, or which input is possible there.
abbrev pub SaysFault : (text : List ℕ) → (lexeme : ℕ) → JsonError → Type 0
SaysFault text lexeme (errors.NotJson position says) = says ≡ (said_at text lexeme).0
SaysFault text lexeme _ = Unit {0}

-- The error is at its offset in a part of a text, before which there are so many bytes.
abbrev pub IsAtIn : (text : List ℕ) → (before : ℕ) → (part : List ℕ) → (lexeme : ℕ) → JsonError → Type 0
IsAtIn text before part lexeme error = before + offset_by part lexeme error ≤ length text → IsAt text (before + offset_by part lexeme error) error

-- ---- the lexeme that isn't possible at its place

-- a lexeme begins at this offset, or the text ends there
pub record IsLexemeStart (text : List ℕ) (at : ℕ) : Type 0 where
  pub within : at ≤ length text
  pub begins : MayBegin (mode_over between (take at text)) (drop at text)
  pub trimmed : IsTrimmed (drop at text)

-- the lexemes of some allowed value begin with these
abbrev pub BeginLexemes : (allowed : Json → Type 0) → List Lexeme → Type 0
BeginLexemes allowed lexemes =
    (json : Json) × (allowed json × ((more : List Lexeme) × (punctuate fresh (lexemes ++ more) ≡ json_tokens json)))

-- The lexemes of no allowed value continue these lexemes with the next of those; and if there is no next, those of no allowed value end here.
abbrev pub NoneGoOn : (allowed : Json → Type 0) → (before after : List Lexeme) → Type 0
NoneGoOn allowed before [] = (json : Json) → allowed json → punctuate fresh before ≡ json_tokens json → ⊥
NoneGoOn allowed before (next ∷ after) = BeginLexemes allowed (before ++ next ∷ []) → ⊥

-- An allowed value begins with the text's lexemes up to this offset, and the next isn't possible there.
pub record CannotStandAt (allowed : Json → Type 0) (text : List ℕ) (at : ℕ) : Type 0 where
  pub start : IsLexemeStart text at
  pub before : List Lexeme
  pub parts : before ++ lex between (drop at text) ≡ lex between text
  pub begins : BeginLexemes allowed before
  pub none : NoneGoOn allowed before (lex between (drop at text))

abbrev pub IsAny : Json → Type 0
IsAny json = Unit {0}

-- Some value goes on after these lexemes with the next; or, if there is none, it ends here.
abbrev pub MayFollow : (before : List Lexeme) → Option Lexeme → Type 0
MayFollow before None = (json : Json) × (punctuate fresh before ≡ json_tokens json)
MayFollow before (Some next) = BeginLexemes IsAny (before ++ next ∷ [])

-- At the first lexeme that isn't possible, the input that an error names there is what may follow, and nothing else may.
abbrev pub ExpectedIsPossible : Type 0
ExpectedIsPossible =
    (text : List ℕ) (at : ℕ) → (place : CannotStandAt IsAny text at)
    → (next : Option Lexeme) → MayFollow place.before next ↔ Names (expected_at text at) next

-- it nests at most `depth` deep
abbrev pub IsWithinDepth : (depth : ℕ) → Json → Type 0
IsWithinDepth depth json = nesting json ≤ depth

-- The error is at the first lexeme that isn't possible at its place, or at the text's end: in any value; in one that nests at most
-- `depth` deep; in one whose objects have each name once. If the text is no JSON, the error names the input that is possible there; or it
-- names the lexeme's fault, and is at the fault.
abbrev pub IsPlacedAt : (depth : ℕ) → (text : List ℕ) → (at : ℕ) → JsonError → Type 0
IsPlacedAt depth text at (errors.NotJson position says) = (lexeme : ℕ) × (CannotStandAt IsAny text lexeme × (said_at text lexeme ≡ (says, at)))
IsPlacedAt depth text at (errors.Marked position) = CannotStandAt IsAny text at
IsPlacedAt depth text at (errors.TooDeep position) = CannotStandAt (IsWithinDepth depth) text at
IsPlacedAt depth text at (errors.DuplicateName position) = CannotStandAt HasUniqueKeys text at
IsPlacedAt depth text at (errors.Emitter error) = Unit {0}

-- The position of the error, if it has one, is that place.
abbrev pub HasPlace : (depth : ℕ) → (text : List ℕ) → JsonError → Type 0
HasPlace depth text error = (at : ℕ) × (IsAt text at error × IsPlacedAt depth text at error)

-- so of a text that begins after these bytes of a longer one: the position is that in the longer one
abbrev pub HasPlaceAfter : (depth : ℕ) → (text front part : List ℕ) → JsonError → Type 0
HasPlaceAfter depth text front part error = (at : ℕ) × (IsAt text (length front + at) error × IsPlacedAt depth part at error)

-- ---- texts that come part by part

-- positions are counted of fewer bytes than these
abbrev pub many_bytes : ℕ
many_bytes = 9223372036854775808

-- the position that follows these bytes
abbrev pub IsPositionAfter : (front : List ℕ) → Position → Type 0
IsPositionAfter front position = length front < many_bytes → IsPositionOf front (length front) position

-- An error is at this lexeme of a text, or at the first byte that isn't UTF-8. Its position is counted from the start of these bytes, which
-- precede the text.
abbrev pub HasPlaceWithin : (depth : ℕ) → (front part : List ℕ) → StreamError → Type 0
HasPlaceWithin depth front part (faults.Refused error) =
    (at : ℕ) × ((length front + at < many_bytes → IsAt (front ++ part) (length front + at) error) × IsPlacedAt depth part at error)
HasPlaceWithin depth front part (faults.NotText position) =
    (at : ℕ) × ((length front + at < many_bytes → IsPositionOf (front ++ part) (length front + at) position) × IsValidUpTo part at)
HasPlaceWithin depth front part _ = Unit {0}

-- Of these bytes those are left, and the position moves past the bytes before them.
pub record MovesPosition (before after : List ℕ) (old new : Position) : Type 0 where
  pub dropped : List ℕ
  pub parts : dropped ++ after ≡ before
  pub follows : (front : List ℕ) → IsPositionAfter front old → IsPositionAfter (front ++ dropped) new
