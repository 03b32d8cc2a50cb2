-- Words of ASCII in UTF-8.
use Rattle.yaml_read.proofs.Common.{ℕ, [], ◌∷◌, ◌++◌, ◌≡◌, suc, zero, Bool, true, refl, nat_lt, ltb-true, and_parts, list_all, replicate, space}
use Rattle.yaml_read.proofs.Common.{encode_utf8_all, Text, line_at, encode_ascii, arith}

-- characters of ASCII; computes at a literal
abbrev pub are_ascii : Text → Bool
are_ascii word = list_all (λ c. nat_lt c 128) word

-- a word of ASCII is its bytes
pub word_encoded : (word rest : Text) → are_ascii word ≡ true → encode_utf8_all (word ++ rest) ≡ word ++ encode_utf8_all rest
word_encoded [] rest h = refl
word_encoded (c ∷ word) rest h =
    grind (arith, and_parts, nat_lt, are_ascii, encode_utf8_all, encode_ascii, ltb-true, word_encoded word rest (and_parts (nat_lt c 128) (are_ascii word) h).1)

spaces_ascii : (n : ℕ) → are_ascii (replicate n space) ≡ true
spaces_ascii zero = refl
spaces_ascii (suc n) = spaces_ascii n

-- so is a line's end with an indentation
pub line_encoded : (column : ℕ) (rest : Text) → encode_utf8_all (line_at column ++ rest) ≡ line_at column ++ encode_utf8_all rest
line_encoded column rest = word_encoded (line_at column) rest (spaces_ascii column)
