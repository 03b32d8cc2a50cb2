-- A text is a word of ASCII by its bytes if it is one by its characters.
use Rattle.yaml_base.proofs.Common.{suc, zero, ℕ, bytes_eq, nat_lt, Bool, false, true, List, [], ◌∷◌, refl, ◌≡◌, ltb-true, ap, sym, ◌∙◌, arith, and_parts}
use Rattle.yaml_base.proofs.Common.{bytes_eq-Decides, chars-IsAscii, list_all, chars, encode_utf8_all}
use Rattle.std.{proofs.lemmas.Str.encodes-IsAscii, proofs.lemmas.Str.encodes-chars, specs.Str.IsAscii, specs.Str.IsUtf8}

-- bytes of ASCII
abbrev pub is_ascii_text : List ℕ → Bool
is_ascii_text bytes = list_all (λ byte. nat_lt byte 128) bytes

-- the fact of which this is the test
pub ascii_of : (bytes : List ℕ) → is_ascii_text bytes ≡ true → IsAscii bytes
ascii_of [] h i = omega arith
ascii_of (b ∷ bytes) h zero = ltb-true b 128 (and_parts (nat_lt b 128) (is_ascii_text bytes) h).0
ascii_of (b ∷ bytes) h (suc i) = ascii_of bytes (and_parts (nat_lt b 128) (is_ascii_text bytes) h).1 i

-- the characters are the word if the bytes are
pub same_word : (bytes word : List ℕ) → IsUtf8 bytes → IsAscii word → bytes_eq bytes word ≡ bytes_eq (chars bytes) word
same_word bytes word is ascii = by (bytes_eq bytes word) (bytes_eq (chars bytes) word) refl refl
  where
    by : (x y : Bool) → bytes_eq bytes word ≡ x → bytes_eq (chars bytes) word ≡ y → x ≡ y
    by true true e f = refl
    by false false e f = refl
    by true false e f =
        sym ((bytes_eq-Decides (chars bytes) word).1 (ap chars ((bytes_eq-Decides bytes word).0 e) ∙ chars-IsAscii word ascii)) ∙ f
    by false true e f =
        sym e ∙ (bytes_eq-Decides bytes word).1
        (sym (encodes-chars bytes is) ∙ ap encode_utf8_all ((bytes_eq-Decides (chars bytes) word).0 f) ∙ encodes-IsAscii word ascii)
