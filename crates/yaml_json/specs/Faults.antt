-- The first fault of a string or of a number that isn't possible at its place.
use Rattle.std.specs.Prelude.{◌≡◌, ℕ, zero, suc, ◌-◌, ◌≤◌, Bool, true, false, ◌||◌, ◌&&◌, ◌==◌, nat_lt, Option, None, Some, Result, Ok, Err, IfSome}
use Rattle.std.specs.Prelude.{option_map, List, [], ◌∷◌, drop, length, is_none, is_some, if◌then◌else◌}
use Rattle.std.specs.Char.{is_ascii_digit}
use Rattle.json.specs.Ascii as ascii
use Rattle.json.specs.Text.{content, is_high_surrogate, is_low_surrogate, plain, short_escape}
use Rattle.json.specs.Token.{bad}
use Rattle.json.specs.Word.{after_exponent, after_fraction, after_minus, after_number, after_sign, after_whole, head, number_before}
use Rattle.yaml_json.specs.Expected.{expected_at}
use Rattle.yaml_json.specs.Lexemes.{first_unit}
use Rattle.yaml_json.specs.declared.expecting.Expected.{Expected}
use Rattle.yaml_json.specs.declared.expecting.Expected.TheVariants as expected

-- What is wrong, and the bytes of the text from there on.
abbrev pub Fault : Type 0
Fault = Expected × List ℕ

-- ---- strings (RFC 8259, section 7)

-- a second half of a surrogate pair
abbrev pub is_low_unit : Option ℕ → Bool
is_low_unit None = false
is_low_unit (Some unit) = is_low_surrogate unit

-- True if the bytes begin with an escape of the second half of a surrogate pair.
abbrev pub begins_low : List ℕ → Bool
begins_low (first ∷ letter ∷ digits) = (first == ascii.backslash) && (letter == ascii.lower_u) && is_low_unit (first_unit digits)
begins_low _ = false

-- The size of an escape by its code unit, without the backslash; or its fault.
abbrev pub unit_size : Option ℕ → (later : List ℕ) → Result ℕ Expected
unit_size None later = Err expected.Escape
unit_size (Some unit) later =
    if is_high_surrogate unit then (if begins_low later then Ok 11 else Err expected.Surrogate)
    else (if is_low_surrogate unit then Err expected.Surrogate else Ok 5)

abbrev pub letter_size : Option ℕ → Result ℕ Expected
letter_size None = Err expected.Escape
letter_size (Some meaning) = Ok 1

-- The size of an escape by the bytes after its backslash, or its fault. If there are none, the fault is that no quote comes.
abbrev pub escape_size : List ℕ → Result ℕ Expected
escape_size [] = Ok 0
escape_size (letter ∷ rest) = if letter == ascii.lower_u then unit_size (first_unit rest) (drop 4 rest) else letter_size (short_escape letter)

-- The number of bytes that belong to a byte of a string's content, or its fault.
abbrev pub size_after : ℕ → List ℕ → Result ℕ Expected
size_after byte rest = if byte == ascii.backslash then escape_size rest else (if nat_lt byte ascii.space then Err expected.Control else Ok 0)

abbrev pub fault_or : Result ℕ Expected → (here : List ℕ) → (ℕ → Option Fault) → Option Fault
fault_or (Ok size) here later = later size
fault_or (Err fault) here later = Some (fault, here)

-- The first fault of a string's content, up to its quote, after so many bytes.
abbrev pub content_fault : (skipped : ℕ) → List ℕ → Option Fault
content_fault skipped [] = Some (expected.Quote, [])
content_fault zero (byte ∷ rest) =
    if byte == ascii.quote then None else fault_or (size_after byte rest) (byte ∷ rest) (λ size. content_fault size rest)
content_fault (suc more) (byte ∷ rest) = content_fault more rest

-- ---- numbers (RFC 8259, section 6)

-- A part of a number is followed by this rest; or a digit of it is missing, there.
abbrev pub digit_or : Option (List ℕ) → (there : List ℕ) → (List ℕ → Option Fault) → Option Fault
digit_or None there later = Some (expected.Digit, there)
digit_or (Some rest) there later = later rest

abbrev pub exponent_fault : List ℕ → Option Fault
exponent_fault t = digit_or (after_exponent t) (after_sign (drop 1 t)) (λ rest. None)

abbrev pub fraction_fault : List ℕ → Option Fault
fraction_fault t = digit_or (after_fraction t) (drop 1 t) exponent_fault

abbrev pub leads_zero : List ℕ → Bool
leads_zero t = (head t == ascii.zero) && is_ascii_digit (head (drop 1 t))

abbrev pub integer_fault : List ℕ → Option Fault
integer_fault t = if leads_zero t then Some (expected.LeadingZero, t) else digit_or (after_whole t) t fraction_fault

-- The first fault of the number that a text begins with, in its integer, its fraction or its exponent.
abbrev pub number_fault : List ℕ → Option Fault
number_fault t = integer_fault (after_minus t)

-- A number, or one without the digit before its point.
abbrev pub begins_number : ℕ → Bool
begins_number byte = (byte == ascii.minus) || (byte == ascii.dot) || is_ascii_digit byte

-- ---- of the lexeme that a text begins with

abbrev pub name_fault : List ℕ → Option Fault
name_fault t = if head t == ascii.quote then content_fault 0 (drop 1 t) else None

abbrev pub value_fault : List ℕ → Option Fault
value_fault t = if head t == ascii.quote then content_fault 0 (drop 1 t) else (if begins_number (head t) then number_fault t else None)

-- The fault of a lexeme that isn't possible at its place: of a string or a number if a value is possible, of a string if a name is.
abbrev pub fault_of : Expected → List ℕ → Option Fault
fault_of expected.Value t = value_fault t
fault_of expected.ItemOrEnd t = value_fault t
fault_of expected.NameOrEnd t = name_fault t
fault_of expected.Name t = name_fault t
fault_of _ t = None

-- The fault is at this place of a text.
abbrev pub FaultsAt : (text : List ℕ) → Option (Expected × ℕ) → Option Fault → Type 0
FaultsAt text found fault = (option_map (λ part. (part.0, drop part.1 text)) found ≡ fault) × IfSome found (λ part. part.1 ≤ length text)

-- What an error says of a lexeme that isn't possible, and the offset of the error: its fault, if it has one, or the input that is possible there.
abbrev pub said_by : Expected → (text : List ℕ) → (at : ℕ) → Option Fault → Expected × ℕ
said_by possible text at None = (possible, at)
said_by possible text at (Some fault) = (fault.0, length text - length fault.1)

abbrev pub said_at : (text : List ℕ) → (lexeme : ℕ) → Expected × ℕ
said_at text lexeme = let possible = expected_at text lexeme in said_by possible text lexeme (fault_of possible (drop lexeme text))

-- ---- laws

-- A string has a fault exactly if it has no content, and a number with a fault is none.
abbrev pub FaultsAreBad : Type 0
FaultsAreBad =
    ((text : List ℕ) → is_some (content_fault 0 text) ≡ is_none (content plain text))
    × ((text : List ℕ) → is_some (number_fault text) ≡ true → number_before text (after_number text) ≡ bad)
