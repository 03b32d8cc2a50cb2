-- The ends of the parts of a JSON text.
use Rattle.std.specs.Prelude.{◌≡◌, ℕ, ◌-◌, ◌<◌, ◌≤◌, Bool, true, false, ◌||◌, ◌==◌, nat_lt, Option, option_map, IfSome, MatchOption, None, List, drop, get_or}
use Rattle.std.specs.Prelude.{◌≢◌, [], ◌∷◌, length, not}
use Rattle.std.specs.Borrow.{Bor}
use Rattle.std.specs.Char.{encode_utf8, is_ascii_digit}
use Rattle.std.specs.List.{list_any}
use Rattle.json.specs.Ascii as ascii
use Rattle.json.specs.Lex.{between, in_word, lex}
use Rattle.json.specs.Reads.{token_of}
use Rattle.json.specs.Text.{Within, after_high, code_unit, content, plain, prepend, surrogate_pair}
use Rattle.json.specs.Token.{Token, bad}
use Rattle.json.specs.Word.{is_operator, is_space}
use Rattle.json.specs.declared.token.Token as declared

-- True if a byte isn't itself in a string's content.
abbrev pub is_stop : ℕ → Bool
is_stop byte = (byte == ascii.quote) || (byte == ascii.backslash) || nat_lt byte ascii.space

-- a byte that is no digit
abbrev pub is_no_digit : ℕ → Bool
is_no_digit byte = not (is_ascii_digit byte)

-- The bytes between two places are themselves in a string's content, and the next isn't.
pub record ArePlain (text : List ℕ) (from to : ℕ) : Type 0 where
  pub ordered : from ≤ to
  pub within : to ≤ length text
  pub plain : (k : ℕ) → from ≤ k → k < to → is_stop (get_or text k 0) ≡ false
  pub stops : to < length text → is_stop (get_or text to 0) ≡ true

-- The rest begins at this place.
abbrev pub LeavesAt : (text : List ℕ) → Option ℕ → (rest : Option (List ℕ)) → Type 0
LeavesAt text place rest = (option_map (λ at. drop at text) place ≡ rest) × IfSome place (λ at. at ≤ length text)

-- a word goes on over these bytes
abbrev pub IsInWord : (bytes : List ℕ) → Type 0
IsInWord bytes = list_any (λ byte. is_operator byte || is_space byte) bytes ≡ false

-- The word that a text begins with has this token, and ends before the rest. If nothing is found, the token is bad.
abbrev pub ReadsWord : (text : List ℕ) → Token → Option (declared.Token × Bor (List ℕ)) → Type 0
ReadsWord text token found =
    MatchOption found (token ≡ bad)
    (λ part. (token_of part.0 ≡ token) × (token ≢ bad) × (lex between part.1.now ≡ lex in_word text))

-- The code unit that four hexadecimal digits at the front of some bytes spell.
abbrev pub first_unit : List ℕ → Option ℕ
first_unit [] = None
first_unit (a ∷ []) = None
first_unit (a ∷ b ∷ []) = None
first_unit (a ∷ b ∷ c ∷ []) = None
first_unit (a ∷ b ∷ c ∷ d ∷ rest) = code_unit a b c d

-- The text begins with the rest of an escape: of this character, and of this size in bytes, the last of which is ASCII.
abbrev pub Unescapes : Within → (text : List ℕ) → Option (ℕ × ℕ) → Type 0
Unescapes within text found =
    MatchOption found (content within text ≡ None)
    (λ part. (content within text ≡ prepend (encode_utf8 part.0) (content plain (drop part.1 text)))
    × (0 < part.1) × (part.1 ≤ length text) × (get_or text (part.1 - 1) 0 < 128))

-- The text begins with an escape of this second half of a surrogate pair, of six bytes; or with none.
abbrev pub IsSecondHalf : (text : List ℕ) → Option ℕ → Type 0
IsSecondHalf text half =
    ((high : ℕ) → Unescapes (after_high high) text (option_map (λ low. (surrogate_pair high low, 6)) half))
    × IfSome half (λ low. (0xdc00 ≤ low) × (low < 0xe000))
