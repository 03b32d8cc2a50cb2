-- The input that is possible at the place where a text breaks off, by the bytes before: by the last token, and by the innermost open bracket.
use Rattle.std.specs.Prelude.{◌≡◌, ◌⊎◌, ℕ, Bool, true, false, ◌==◌, ◌&&◌, nat_le, Option, None, Some, List, [], ◌∷◌, codes, drop, length, suc, take, if◌then◌else◌}
use Rattle.json.specs.Ascii as ascii
use Rattle.json.specs.Lex.{Lexeme, colon, comma, token}
use Rattle.json.specs.Token.{Token}
use Rattle.json.specs.Word.{is_space}
use Rattle.yaml_base.specs.declared.kinds.CollectionKind.{CollectionKind}
use Rattle.yaml_base.specs.declared.kinds.CollectionKind.TheVariants.{Mapping, Sequence}
use Rattle.yaml_json.specs.Texts.{is_closer, is_opener}
use Rattle.yaml_json.specs.Walk.{IsOpener, IsScalar}
use Rattle.yaml_json.specs.declared.expecting.Depth.{Depth}
use Rattle.yaml_json.specs.declared.expecting.Expected.{Expected}
use Rattle.yaml_json.specs.declared.expecting.Expected.TheVariants as expected
use Rattle.yaml_json.specs.declared.expecting.Front.{Front}
use Rattle.yaml_json.specs.declared.expecting.Last.{Last}
use Rattle.yaml_json.specs.declared.expecting.Last.TheVariants.{Nothing, Opener, Comma, Colon, First, Value}
use Rattle.yaml_json.specs.declared.expecting.Quoting.{Quoting}
use Rattle.yaml_json.specs.declared.expecting.Quoting.TheVariants.{Outside, Inside, Escaped}

-- ---- the state of a text after some of its bytes

-- Whether the place is within a string; the kind of the last token; the open brackets, the innermost first.
pub record StandingInJson : Type 0 where
  pub quoting : Quoting
  pub last : Last
  pub kinds : List CollectionKind

abbrev pub start : StandingInJson
start = record { quoting = Outside; last = Nothing; kinds = [] }

-- A string ends with a quote that no backslash precedes.
abbrev pub quoting_after : Quoting → ℕ → Quoting
quoting_after Outside byte = if byte == ascii.quote then Inside else Outside
quoting_after Inside byte = if byte == ascii.backslash then Escaped else (if byte == ascii.quote then Outside else Inside)
quoting_after Escaped byte = Inside

-- after a byte of a string or of a word
abbrev pub after_word_byte : Last → Last
after_word_byte Nothing = Value
after_word_byte Opener = First
after_word_byte Comma = First
after_word_byte Colon = Value
after_word_byte First = First
after_word_byte Value = Value

-- blanks change nothing
abbrev pub last_after : Last → ℕ → Last
last_after last byte =
    if is_space byte then last
    else (if is_opener byte then Opener
    else (if is_closer byte then Value
    else (if byte == ascii.comma then Comma
    else (if byte == ascii.colon then Colon else after_word_byte last))))

abbrev pub kind_opened : ℕ → Option CollectionKind
kind_opened byte = if byte == ascii.open_bracket then Some Sequence else (if byte == ascii.open_brace then Some Mapping else None)

abbrev pub open_by : Option CollectionKind → (closes : Bool) → List CollectionKind → List CollectionKind
open_by (Some kind) closes kinds = kind ∷ kinds
open_by None true kinds = drop 1 kinds
open_by None false kinds = kinds

abbrev pub open_after : List CollectionKind → ℕ → List CollectionKind
open_after kinds byte = open_by (kind_opened byte) (is_closer byte) kinds

-- within a string brackets, commas and colons are text
abbrev pub standing_by : Quoting → StandingInJson → ℕ → StandingInJson
standing_by Outside standing byte =
    record { quoting = quoting_after Outside byte; last = last_after standing.last byte; kinds = open_after standing.kinds byte }
standing_by quoting standing byte = record standing { quoting = quoting_after quoting byte }

abbrev pub standing_after : StandingInJson → ℕ → StandingInJson
standing_after standing byte = standing_by standing.quoting standing byte

abbrev pub standing_over : StandingInJson → List ℕ → StandingInJson
standing_over standing [] = standing
standing_over standing (byte ∷ bytes) = standing_over (standing_after standing byte) bytes

-- ---- the input that is possible there

abbrev pub innermost : List CollectionKind → Option CollectionKind
innermost [] = None
innermost (kind ∷ outer) = Some kind

-- after a value
abbrev pub after_value : Option CollectionKind → Expected
after_value None = expected.End
after_value (Some Sequence) = expected.CommaOrBracket
after_value (Some Mapping) = expected.CommaOrBrace

-- After the first string or word that follows a bracket or a comma: in an object it is a name.
abbrev pub after_first : Option CollectionKind → Expected
after_first (Some Mapping) = expected.Colon
after_first kind = after_value kind

abbrev pub after_comma : Option CollectionKind → Expected
after_comma (Some Mapping) = expected.Name
after_comma kind = expected.Value

abbrev pub after_opener : Option CollectionKind → Expected
after_opener (Some Mapping) = expected.NameOrEnd
after_opener kind = expected.ItemOrEnd

abbrev pub expected_by : Last → Option CollectionKind → Expected
expected_by Nothing kind = expected.Value
expected_by Opener kind = after_opener kind
expected_by Comma kind = after_comma kind
expected_by Colon kind = expected.Value
expected_by First kind = after_first kind
expected_by Value kind = after_value kind

abbrev pub is_nothing : Last → Bool
is_nothing Nothing = true
is_nothing _ = false

-- a text that has ended, and is blank, is none
abbrev pub expected_of : StandingInJson → (ended : Bool) → Expected
expected_of standing ended =
    if is_nothing standing.last && ended then expected.Text else expected_by standing.last (innermost standing.kinds)

-- The input that is possible at an offset of a text.
abbrev pub expected_at : (text : List ℕ) → (at : ℕ) → Expected
expected_at text at = expected_of (standing_over start (take at text)) (nat_le (length text) at)

-- in words
abbrev pub words : Expected → List ℕ
words expected.Text = codes "there is no JSON text"
words expected.Value = codes "expected a value"
words expected.ItemOrEnd = codes "expected a value or ']'"
words expected.NameOrEnd = codes "expected a name or '}'"
words expected.Name = codes "expected a name"
words expected.Colon = codes "expected ':'"
words expected.CommaOrBracket = codes "expected ',' or ']'"
words expected.CommaOrBrace = codes "expected ',' or '}'"
words expected.End = codes "expected the end of the text"
words expected.Control = codes "a control character in a string"
words expected.Escape = codes "invalid escape"
words expected.Surrogate = codes "half of a surrogate pair"
words expected.Quote = codes "expected a closing quote"
words expected.LeadingZero = codes "a leading zero"
words expected.Digit = codes "expected a digit"
words expected.Utf8 = codes "not UTF-8"

-- ---- the lexemes of that input

-- The next lexeme is a literal, a number, a string, or a bracket that opens.
abbrev pub BeginsValue : Option Lexeme → Type 0
BeginsValue next = (t : Token) × ((next ≡ Some (token t)) × (IsScalar t ⊎ IsOpener t))

-- the next lexeme is a string
abbrev pub IsText : Option Lexeme → Type 0
IsText next = (text : List ℕ) × (next ≡ Some (token (Token.string text)))

-- The input names the next lexeme; or, if there is none, the end of the text.
abbrev pub Names : Expected → Option Lexeme → Type 0
Names expected.Text next = BeginsValue next
Names expected.Value next = BeginsValue next
Names expected.ItemOrEnd next = BeginsValue next ⊎ (next ≡ Some (token Token.end_array))
Names expected.NameOrEnd next = IsText next ⊎ (next ≡ Some (token Token.end_object))
Names expected.Name next = IsText next
Names expected.Colon next = next ≡ Some colon
Names expected.CommaOrBracket next = (next ≡ Some comma) ⊎ (next ≡ Some (token Token.end_array))
Names expected.CommaOrBrace next = (next ≡ Some comma) ⊎ (next ≡ Some (token Token.end_object))
Names expected.End next = next ≡ None
Names _ next = ⊥

-- ---- by counting

-- the kind of the bracket that so many are open with, it among them
abbrev pub kind_at : (deep : ℕ) → List CollectionKind → Option CollectionKind
kind_at deep [] = None
kind_at deep (kind ∷ outer) = if suc (length outer) == deep then Some kind else kind_at deep outer

-- so many brackets are open, and one of them is of this kind
pub record IsDepth (deep : ℕ) (kinds : List CollectionKind) (depth : Depth) : Type 0 where
  pub count : depth.count ≡ length kinds
  pub kind : depth.kind ≡ kind_at deep kinds

pub record IsFront (deep : ℕ) (standing : StandingInJson) (front : Front) : Type 0 where
  pub quoting : front.quoting ≡ standing.quoting
  pub last : front.last ≡ standing.last
  pub depth : IsDepth deep standing.kinds front.depth
