-- The places at which bytes break off, and the place of an error.
use Rattle.std.specs.Prelude.{ℕ, ◌+◌, ◌-◌, ◌*◌, ◌<◌, ◌≡◌, ◌⊎◌, None, Option, Result, Ok, Err, List, [], ◌∷◌, ◌++◌, codes, flat_map, length, replicate}
use Rattle.std.specs.Prelude.{IfErr, IfOk, IfSome}
use Rattle.std.specs.Borrow.{Bor}
use Rattle.std.specs.Str.{IsUtf8, IsValidUpTo}
use Rattle.yaml_base.specs.Characters.{space}
use Rattle.yaml_base.specs.Positions.{IsPositionOf}
use Rattle.yaml_base.specs.declared.places.Position.{Position}
use Rattle.yaml_base.specs.values.TypedValues.{TypedValue, most_nested}
use Rattle.yaml_base.specs.graphs.DumpedText.{line_at}
use Rattle.yaml_value.specs.declared.keys.Keys.{Keys}
use Rattle.yaml_read.specs.AllowedKeys.{KeysAllow, OpenKeysAllow}
use Rattle.yaml_read.specs.Grammar.{behind_value, node, nothing, word_then}
use Rattle.yaml_read.specs.Opened.{HasRead, IsOpen}
use Rattle.yaml_value.specs.OpenLevels.{OpenLevel}
use Rattle.yaml_read.specs.Words.{Cuts, CutsIf, past_word}
use Rattle.yaml_read.specs.declared.errors.Stop.{Stop}
use Rattle.yaml_read.specs.declared.errors.Stop.TheVariants as stop

-- So far before their end a word is missing: words with which some of these begin precede it, a further word is due, and what
-- follows begins with none that may come next.
pub record BreaksOff (These : List (List ℕ) → Type 0) (bytes : List ℕ) (left : ℕ) : Type 0 where
  pub read : List (List ℕ)
  pub rest : List ℕ
  pub parts : bytes ≡ flat_map (λ word. word) read ++ rest
  pub place : left ≡ length rest
  pub due : List ℕ
  pub more : List (List ℕ)
  pub begins : These (read ++ due ∷ more)
  pub none : (next : List ℕ) (after : List (List ℕ)) → These (read ++ next ∷ after) → past_word next rest ≡ None

-- After a document's first line the bytes are a value's up to a node, or up to what follows one, and a word is missing from there on;
-- or they are a value's, and more follows. If keys must differ, none repeats up to there; one that no `: ` follows isn't compared.
pub data BreaksInValue (mode : Keys) (whole : List ℕ) (left : ℕ) : Type 0 where
  in_node : (levels : List OpenLevel) (bytes : List ℕ) → IsOpen whole levels bytes → OpenKeysAllow mode levels
      → BreaksOff (node (length levels)) bytes left → BreaksInValue mode whole left
  behind_node : (levels : List OpenLevel) (value : TypedValue) (bytes : List ℕ) → HasRead whole levels value bytes → OpenKeysAllow mode levels
      → KeysAllow mode value → BreaksOff (behind_value levels) bytes left → BreaksInValue mode whole left
  behind_all : (value : TypedValue) (bytes rest : List ℕ) → HasRead whole [] value bytes → KeysAllow mode value → bytes ≡ codes "\n" ++ rest
      → 0 < length rest → left ≡ length rest → BreaksInValue mode whole left

-- they are a value's up to a list or a map within as many others as may be open
pub record OpensPastDepth (mode : Keys) (whole : List ℕ) (left : ℕ) : Type 0 where
  pub levels : List OpenLevel
  pub bytes : List ℕ
  pub opened : IsOpen whole levels bytes
  pub allowed : OpenKeysAllow mode levels
  pub full : length levels ≡ most_nested
  pub inside : List ℕ
  pub begins : (bytes ≡ codes "!!seq [" ++ inside) ⊎ (bytes ≡ codes "!!map {" ++ inside)
  pub place : left ≡ length bytes

-- ---- places in the bytes of a document

-- something holds of what follows a document's first line
abbrev pub IsBehindMarker : (bytes : List ℕ) → (Holds : List ℕ → Type 0) → Type 0
IsBehindMarker bytes Holds = (whole : List ℕ) × (bytes ≡ codes "---\n" ++ whole) × Holds whole

-- the word so far before the end is impossible there
abbrev pub CannotStand : Keys → (bytes : List ℕ) → (left : ℕ) → Type 0
CannotStand mode bytes left =
    BreaksOff (word_then (codes "---\n") nothing) bytes left ⊎ IsBehindMarker bytes (λ whole. BreaksInValue mode whole left)

-- The position at which bytes stop to be UTF-8.
pub record EndsUtf8 (bytes : List ℕ) (position : Position) : Type 0 where
  pub not_utf8 : IsUtf8 bytes → ⊥
  pub at : ℕ
  pub valid : IsValidUpTo bytes at
  pub position_is : IsPositionOf bytes at position

-- The position in UTF-8 at which something holds of the number of bytes that are left.
pub record IsPlaceOf (Holds : ℕ → Type 0) (bytes : List ℕ) (position : Position) : Type 0 where
  pub utf8 : IsUtf8 bytes
  pub left : ℕ
  pub position_is : IsPositionOf bytes (length bytes - left) position
  pub holds : Holds left

-- The position at which the bytes stop to be UTF-8, or else of the first word that is impossible there.
abbrev pub IsWordPlace : Keys → (bytes : List ℕ) → Position → Type 0
IsWordPlace mode bytes position = EndsUtf8 bytes position ⊎ IsPlaceOf (CannotStand mode bytes) bytes position

-- That of the first list or map that lies too deep.
abbrev pub IsDepthPlace : Keys → (bytes : List ℕ) → Position → Type 0
IsDepthPlace mode bytes position = IsPlaceOf (λ left. IsBehindMarker bytes (λ whole. OpensPastDepth mode whole left)) bytes position

-- ---- the code's answers

-- the first word of the bytes is impossible there
abbrev pub IsHere : (bytes : List ℕ) → Stop → Type 0
IsHere bytes error = error ≡ stop.Refused (length bytes)

-- the list or the map that begins the bytes lies too deep
abbrev pub IsDeepHere : (bytes : List ℕ) → Stop → Type 0
IsDeepHere bytes error = error ≡ stop.TooDeep (length bytes)

abbrev pub IsHereOrMemory : (bytes : List ℕ) → Stop → Type 0
IsHereOrMemory bytes error = (error ≡ stop.Memory) ⊎ IsHere bytes error

-- a word that is refused as a whole: want of memory stays
abbrev pub IsWholeWord : (bytes : List ℕ) → Stop → Stop → Type 0
IsWholeWord bytes stop.Memory error = error ≡ stop.Memory
IsWholeWord bytes _ error = IsHere bytes error

-- a level's two spaces are missing
pub record LacksLevel (depth : ℕ) (bytes : List ℕ) (error : Stop) : Type 0 where
  pub level : ℕ
  pub below : level < depth
  pub rest : List ℕ
  pub text : bytes ≡ replicate (level * 2) space ++ rest
  pub none : past_word (codes "  ") rest ≡ None
  pub place : IsHere rest error

-- a line's end or a level's two spaces are missing
pub data LacksLine (depth : ℕ) (bytes : List ℕ) (error : Stop) : Type 0 where
  no_line : past_word (codes "\n") bytes ≡ None → IsHere bytes error → LacksLine depth bytes error
  no_level : (line : List ℕ) → bytes ≡ codes "\n" ++ line → LacksLevel depth line error → LacksLine depth bytes error

-- after the outermost value its line's end is missing, or more follows that
pub data LacksEnd (bytes : List ℕ) (error : Stop) : Type 0 where
  no_end : past_word (codes "\n") bytes ≡ None → IsHere bytes error → LacksEnd bytes error
  more_follows : (rest : List ℕ) → bytes ≡ codes "\n" ++ rest → 0 < length rest → IsHere rest error → LacksEnd bytes error

-- the bytes begin with a word, and this follows it; or they don't begin with it
pub record PastWord (word bytes : List ℕ) (result : Option (Bor (List ℕ))) : Type 0 where
  pub cut : CutsIf word bytes result
  pub shorter : IfSome result (λ rest. length rest.now + length word ≡ length bytes)

pub record WordCut (word bytes : List ℕ) (result : Result (Bor (List ℕ)) Stop) : Type 0 where
  pub cut : Cuts word bytes result
  pub placed : IfErr result (IsHere bytes)
  pub shorter : IfOk result (λ rest. length rest.now + length word ≡ length bytes)

-- the bytes begin with a line's end and the indentation of a depth, and this follows them; or they don't begin so
pub record IndentCut (depth : ℕ) (bytes : List ℕ) (result : Result (Bor (List ℕ)) Stop) : Type 0 where
  pub cut : Cuts (line_at (depth * 2)) bytes result
  pub lacks : IfErr result (LacksLine depth bytes)
  pub shorter : IfOk result (λ rest. length rest.now < length bytes)

-- that line's end is all that is left, or it isn't so
abbrev pub EndsText : (bytes : List ℕ) → Result (Unit {0}) Stop → Type 0
EndsText bytes (Ok _) = bytes ≡ codes "\n"
EndsText bytes (Err error) = LacksEnd bytes error

-- the bytes break off, or memory gave out
abbrev pub BreaksAt : (These : List (List ℕ) → Type 0) → (bytes : List ℕ) → Stop → Type 0
BreaksAt These bytes (stop.Refused left) = BreaksOff These bytes left
BreaksAt These bytes (stop.TooDeep left) = ⊥
BreaksAt These bytes stop.Memory = Unit {0}

-- why reading stops after a document's first line, and anywhere
abbrev pub StopsIn : Keys → (whole : List ℕ) → Stop → Type 0
StopsIn mode whole (stop.Refused left) = BreaksInValue mode whole left
StopsIn mode whole (stop.TooDeep left) = OpensPastDepth mode whole left
StopsIn mode whole stop.Memory = Unit {0}

abbrev pub StopsAt : Keys → (bytes : List ℕ) → Stop → Type 0
StopsAt mode bytes (stop.Refused left) = CannotStand mode bytes left
StopsAt mode bytes (stop.TooDeep left) = IsBehindMarker bytes (λ whole. OpensPastDepth mode whole left)
StopsAt mode bytes stop.Memory = Unit {0}
