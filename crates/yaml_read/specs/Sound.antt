-- The words that the readers of words found.
use Rattle.std.specs.Prelude.{ℕ, ℤ, ◌<◌, ◌≤◌, ◌^◌, ◌≡◌, ◌≢◌, Bool, true, Option, None, Some, IfSome, List, MatchOption, [], ◌∷◌, ◌++◌}
use Rattle.std.specs.Borrow.{Bor}
use Rattle.std.specs.Fmt.{signed_decimal}
use Rattle.std.specs.Int.Signed.{mag}
use Rattle.std.specs.Str.{all_scalars, encode_utf8_all}
use Rattle.yaml_base.specs.Characters.{Text, hex_digits}
use Rattle.yaml_base.specs.scalars.DoubleQuoted.{character_text, escape_after_backslash, letter_among, needs_escape, short_escapes}
use Rattle.yaml_base.specs.values.TypedValues.{TypedValue, bool_text, bool_value, int_value}
use Rattle.yaml_base.specs.graphs.DumpedText.{in_quotes, value_text}
use Rattle.yaml_read.specs.Heads.{ReadsCharacter}
use Rattle.yaml_read.specs.Readable.{CanBeReadAt}

-- a character that needs an escape and has one by number, of so many digits
pub record IsByNumber (bytes : List ℕ) (digits c : ℕ) (rest : List ℕ) : Type 0 where
  pub scalar : all_scalars (c ∷ []) ≡ true
  pub needs : needs_escape true c ≡ true
  pub none : letter_among short_escapes c ≡ None
  pub text : bytes ≡ encode_utf8_all (hex_digits digits c) ++ rest

-- a number that was read, as a character that no shorter escape has; or it is none
abbrev pub NumberRead : (least : ℕ) → (found answer : Option (ℕ × Bor (List ℕ))) → Type 0
NumberRead least found (Some read) =
    (found ≡ Some read) × (least ≤ read.0) × (needs_escape true read.0 ≡ true) × (letter_among short_escapes read.0 ≡ None)
    × (all_scalars (read.0 ∷ []) ≡ true)
NumberRead least found None =
    (read : ℕ × Bor (List ℕ)) → found ≡ Some read → least ≤ read.0 → needs_escape true read.0 ≡ true → letter_among short_escapes read.0 ≡ None
    → all_scalars (read.0 ∷ []) ≡ true → ⊥

-- an escape after its backslash
pub record IsEscape (bytes : List ℕ) (c : ℕ) (rest : List ℕ) : Type 0 where
  pub scalar : all_scalars (c ∷ []) ≡ true
  pub needs : needs_escape true c ≡ true
  pub text : bytes ≡ encode_utf8_all (escape_after_backslash (letter_among short_escapes c) c) ++ rest

-- a character between quotes
pub record IsCharacter (bytes : List ℕ) (c : ℕ) (rest : List ℕ) : Type 0 where
  pub scalar : all_scalars (c ∷ []) ≡ true
  pub text : bytes ≡ encode_utf8_all (character_text true c) ++ rest

-- ---- the code's answers

pub record EscapeRead (bytes : List ℕ) (result : Option (ℕ × Bor (List ℕ))) : Type 0 where
  pub reads : (c : ℕ) (rest : Text) → all_scalars (c ∷ []) ≡ true → needs_escape true c ≡ true
      → bytes ≡ encode_utf8_all (escape_after_backslash (letter_among short_escapes c) c ++ rest)
      → MatchOption result ⊥ (λ found. (found.0 ≡ c) × (found.1.now ≡ encode_utf8_all rest))
  pub sound : IfSome result (λ found. IsEscape bytes found.0 found.1.now)

pub record CharacterRead (bytes : List ℕ) (result : Option (ℕ × Bor (List ℕ))) : Type 0 where
  pub reads : ReadsCharacter bytes result
  pub sound : IfSome result (λ found. IsCharacter bytes found.0 found.1.now)

-- the integer of 64 bits that digits spell in its one way, or they spell none
abbrev pub IntegerOf : (digits : List ℕ) → Option ℤ → Type 0
IntegerOf digits (Some n) = (mag n < 2 ^ 63) × (digits ≡ signed_decimal n)
IntegerOf digits None = (n : ℤ) → mag n < 2 ^ 63 → digits ≢ signed_decimal n

-- an integer and a truth value between quotes
pub record IsInteger (bytes : List ℕ) (value : TypedValue) (rest : List ℕ) : Type 0 where
  pub number : ℤ
  pub is : value ≡ int_value number
  pub bits : mag number < 2 ^ 63
  pub text : bytes ≡ encode_utf8_all (in_quotes (signed_decimal number)) ++ rest

pub record IsTruth (bytes : List ℕ) (value : TypedValue) (rest : List ℕ) : Type 0 where
  pub truth : Bool
  pub is : value ≡ bool_value truth
  pub text : bytes ≡ encode_utf8_all (in_quotes (bool_text truth)) ++ rest

-- a scalar, wherever it lies
pub record IsScalarValue (bytes : List ℕ) (value : TypedValue) (rest : List ℕ) : Type 0 where
  pub readable : (depth : ℕ) → CanBeReadAt depth value
  pub text : (column : ℕ) → bytes ≡ encode_utf8_all (value_text column value) ++ rest
