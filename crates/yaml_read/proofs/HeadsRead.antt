-- How a value that was read began.
use Rattle.yaml_read.proofs.Common.{ℕ, ◌<◌, true, List, [], ◌++◌, refl, ◌≡◌, ap, subst, sym, ◌∙◌, append_assoc, append-nil, arith, codes, Text, encode_utf8_all}
use Rattle.yaml_read.proofs.Common.{chars, chars-IsAscii, ℤ, TypedValue, null_value, text_value, list_value, map_value, no_values, no_value_pairs, bool_text}
use Rattle.yaml_read.proofs.Common.{seen_text, in_quotes, value_text, FitsSigned, w64, ◌^◌, Result, Ok, Err, String, string_bytes, IsUtf8-string_bytes}
use Rattle.yaml_read.proofs.Common.{scalars-chars, IsAscii-signed, signed_decimal, mag, ParsesSigned, IsInteger, IsTruth, IsScalarValue}
use Rattle.yaml_read.proofs.Encoded.{are_ascii, word_encoded}

-- a word of ASCII is its bytes
pub word_bytes : (word : Text) → are_ascii word ≡ true → encode_utf8_all word ≡ word
word_bytes word h = ap encode_utf8_all (sym (append-nil word)) ∙ word_encoded word [] h ∙ append-nil word

-- an integer that was parsed has 64 bits
pub parsed_fits : {E : Type 0} (bytes : List ℕ) (n : ℤ) (answer : Result ℤ E) → ParsesSigned w64 10 bytes answer → answer ≡ Ok n → FitsSigned w64 n
parsed_fits bytes n (Ok z) parses is = let same : z ≡ n = cc in subst (FitsSigned w64) (sym parses.1 ∙ same) parses.0.1
parsed_fits bytes n (Err error) parses is = absurd (apart is)
  where
    apart : Err error ≡ Ok n → ⊥
    apart e = cc

pub bits_of_fits : (n : ℤ) → FitsSigned w64 n → mag n < 2 ^ 63
bits_of_fits n h1 = grind arith

pub digits_seen : {A : Type 0} (digits : String A) (n : ℤ) → mag n < 2 ^ 63 → string_bytes digits ≡ signed_decimal n → seen_text digits ≡ signed_decimal n
digits_seen digits n few is = ap chars is ∙ chars-IsAscii (signed_decimal n) (IsAscii-signed n few)

-- the rest of a value's text after a tag
pub tagged_text : (bytes behind rest tail : List ℕ) (word written : Text) → are_ascii word ≡ true → bytes ≡ word ++ behind
    → behind ≡ encode_utf8_all written ++ rest → bytes ≡ encode_utf8_all (word ++ written) ++ rest
tagged_text bytes behind rest tail word written h tagged is = grind (arith, append_assoc, encode_utf8_all, word_encoded)

-- ---- values on their line

pub null_read : (bytes behind rest : List ℕ) → bytes ≡ codes "!!null " ++ behind → behind ≡ codes "\"null\"" ++ rest → IsScalarValue bytes null_value rest
null_read bytes behind rest tagged is =
    record {
      readable = λ depth. tt;
      text = λ column. tagged_text bytes behind rest [] (codes "!!null ") (codes "\"null\"") refl tagged
          (is ∙ ap (λ w. w ++ rest) (sym (word_bytes (codes "\"null\"") refl)));
    }

pub truth_read : (bytes behind rest : List ℕ) (value : TypedValue) → bytes ≡ codes "!!bool " ++ behind → IsTruth behind value rest
    → IsScalarValue bytes value rest
truth_read bytes behind rest value tagged truth =
    subst (λ value. IsScalarValue bytes value rest) (sym truth.is)
    (record {
      readable = λ depth. tt;
      text = λ column. tagged_text bytes behind rest [] (codes "!!bool ") (in_quotes (bool_text truth.truth)) refl tagged truth.text;
    })

pub integer_read : (bytes behind rest : List ℕ) (value : TypedValue) → bytes ≡ codes "!!int " ++ behind → IsInteger behind value rest
    → IsScalarValue bytes value rest
integer_read bytes behind rest value tagged integer =
    subst (λ value. IsScalarValue bytes value rest) (sym integer.is)
    (record {
      readable = λ depth. integer.bits;
      text = λ column. tagged_text bytes behind rest [] (codes "!!int ") (in_quotes (signed_decimal integer.number)) refl tagged integer.text;
    })

pub string_read : {A : Type 0} (bytes behind rest : List ℕ) (text : String A) → bytes ≡ codes "!!str " ++ behind
    → behind ≡ encode_utf8_all (in_quotes (seen_text text)) ++ rest → IsScalarValue bytes (text_value (seen_text text)) rest
string_read bytes behind rest text tagged is =
    record {
      readable = λ depth. scalars-chars (string_bytes text) (IsUtf8-string_bytes text);
      text = λ column. tagged_text bytes behind rest [] (codes "!!str ") (in_quotes (seen_text text)) refl tagged is;
    }

-- ---- an empty list and an empty map

pub empty_list : (column : ℕ) (bytes behind inside rest : List ℕ) → bytes ≡ codes "!!seq " ++ behind → behind ≡ codes "[" ++ inside
    → inside ≡ codes "]" ++ rest → bytes ≡ encode_utf8_all (value_text column (list_value no_values)) ++ rest
empty_list column bytes behind inside rest tagged bracket is =
    tagged_text bytes behind rest [] (codes "!!seq ") (codes "[]") refl tagged
    (bracket ∙ ap (λ t. codes "[" ++ t) is ∙ ap (λ w. w ++ rest) (sym (word_bytes (codes "[]") refl)))

pub empty_map : (column : ℕ) (bytes behind inside rest : List ℕ) → bytes ≡ codes "!!map " ++ behind → behind ≡ codes "{" ++ inside
    → inside ≡ codes "}" ++ rest → bytes ≡ encode_utf8_all (value_text column (map_value no_value_pairs)) ++ rest
empty_map column bytes behind inside rest tagged bracket is =
    tagged_text bytes behind rest [] (codes "!!map ") (codes "{}") refl tagged
    (bracket ∙ ap (λ t. codes "{" ++ t) is ∙ ap (λ w. w ++ rest) (sym (word_bytes (codes "{}") refl)))
