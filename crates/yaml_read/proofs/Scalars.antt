-- A readable value's text consists of Unicode scalar values, so its bytes are UTF-8.
use Rattle.yaml_read.proofs.Common.{ℕ, ◌+◌, ◌%◌, ◌/◌, ◌<◌, ◌==◌, suc, zero, Bool, true, false, Some, [], ◌∷◌, ◌++◌, refl, ◌≡◌, ap, sym, ◌∙◌, arith, codes}
use Rattle.yaml_read.proofs.Common.{space, line_feed, Text, replicate, all_scalars, encode_utf8_all, and_parts, and_from, agree_below_at, hex_digit}
use Rattle.yaml_read.proofs.Common.{hex_digits, character_text, flat_map, if◌then◌else◌, chars-IsAscii, eqb-true, TypedValue, null_value, bool_value}
use Rattle.yaml_read.proofs.Common.{int_value, text_value, list_value, map_value, TypedValues, no_values, values_and, TypedPairs, no_value_pairs}
use Rattle.yaml_read.proofs.Common.{value_pairs_and, line_at, value_text, closing_line, node_pairs_text, nodes_text, value_nodes, value_pairs, document_text}
use Rattle.yaml_read.proofs.Common.{in_quotes, seen_text, meaning_among, quote, ℤ, ◌^◌, Result, Ok, Err, String, scalars-chars, IsUtf8-from_ascii}
use Rattle.yaml_read.proofs.Common.{encodes-chars, IsUtf8-string_bytes, signed_decimal, mag, IsUtf8, IsAscii-signed, FitsSigned, w64, string_bytes}
use Rattle.yaml_read.proofs.Common.{CanBeRead, CanBeReadAt, AllCanBeReadAt, PairsCanBeReadAt}
use Rattle.yaml_read.proofs.Firsts.{AfterBackslash, by_letter, by_two, by_four, after_backslash}
use Rattle.yaml_read.proofs.{Escapes.Stands, Escapes.as_itself, Escapes.as_escape, Escapes.stands, Remaining.readable_root}
use Rattle.yaml_base.proofs.Common.{has_no_nodes, has_no_pairs}
use Rattle.std.proofs.lemmas.Str.{encodes-IsAscii}
use lib.Utf8.{scalar}

pub joined_scalars : (a b : Text) → all_scalars a ≡ true → all_scalars b ≡ true → all_scalars (a ++ b) ≡ true
joined_scalars [] b ha hb = hb
joined_scalars (c ∷ a) b ha hb = let parts = and_parts (scalar c) (all_scalars a) ha in and_from _ _ parts.0 (joined_scalars a b parts.1 hb)

one : (c : ℕ) → scalar c ≡ true → all_scalars (c ∷ []) ≡ true
one c h = and_from (scalar c) true h refl

pub spaces_scalars : (n : ℕ) → all_scalars (replicate n space) ≡ true
spaces_scalars zero = refl
spaces_scalars (suc n) = spaces_scalars n

digit_scalar : (n : ℕ) → scalar (hex_digit (n % 16)) ≡ true
digit_scalar n = agree_below_at (λ d. scalar (hex_digit d)) (λ d. true) 16 (n % 16) refl (omega arith)

digits_scalars : (count n : ℕ) → all_scalars (hex_digits count n) ≡ true
digits_scalars zero n = refl
digits_scalars (suc count) n = grind (arith, joined_scalars, hex_digits, hex_digit, one, digit_scalar, digits_scalars count (n / 16))

meaning_scalar : (letters meanings : Text) (c meaning : ℕ) → all_scalars letters ≡ true → meaning_among letters meanings c ≡ Some meaning
    → scalar c ≡ true
meaning_scalar (letter ∷ letters) (m ∷ meanings) c meaning h is =
    let parts : (scalar letter ≡ true) × (all_scalars letters ≡ true) = and_parts (scalar letter) (all_scalars letters) h in
    first letter letters meanings c m meaning parts.0 (meaning_scalar letters meanings c meaning parts.1) (c == letter) refl is
  where
    first : (letter : ℕ) (letters meanings : Text) (c m meaning : ℕ) → scalar letter ≡ true
        → (meaning_among letters meanings c ≡ Some meaning → scalar c ≡ true) → (b : Bool) → (c == letter) ≡ b
        → (if b then Some m else meaning_among letters meanings c) ≡ Some meaning → scalar c ≡ true
    first letter letters meanings c m meaning fits more true same found = ap scalar (eqb-true c letter same) ∙ fits
    first letter letters meanings c m meaning fits more false other found = more found
meaning_scalar _ _ c meaning h is = cc

escape_scalars : (c : ℕ) (text : Text) → AfterBackslash c text → all_scalars text ≡ true
escape_scalars c text (by_letter letter means) = one letter (meaning_scalar (codes "0abtnvfre\"\\N_LP ")
    (0 ∷ 7 ∷ 8 ∷ 9 ∷ 0xA ∷ 0xB ∷ 0xC ∷ 0xD ∷ 0x1B ∷ 0x22 ∷ 0x5C ∷ 0x85 ∷ 0xA0 ∷ 0x2028 ∷ 0x2029 ∷ 0x20 ∷ []) letter c refl means)
escape_scalars c text (by_two none few) = digits_scalars 2 c
escape_scalars c text (by_four none many few) = digits_scalars 4 c

character_scalars : (c : ℕ) → scalar c ≡ true → all_scalars (character_text true c) ≡ true
character_scalars c h = by (character_text true c) (stands c)
  where
    by : (text : Text) → Stands c text → all_scalars text ≡ true
    by text (as_itself plain) = one c h
    by text (as_escape needs) = escape_scalars c _ (after_backslash c (one c h) needs)

inside_scalars : (text : Text) → all_scalars text ≡ true → all_scalars (flat_map (character_text true) text) ≡ true
inside_scalars [] h = refl
inside_scalars (c ∷ text) h =
    let parts = and_parts (scalar c) (all_scalars text) h in
    joined_scalars (character_text true c) (flat_map (character_text true) text) (character_scalars c parts.0) (inside_scalars text parts.1)

pub quotes_scalars : (text : Text) → all_scalars text ≡ true → all_scalars (in_quotes text) ≡ true
quotes_scalars text h = joined_scalars (flat_map (character_text true) text) (quote ∷ []) (inside_scalars text h) refl

-- the digits of an integer
pub int_scalars : (n : ℤ) → mag n < 2 ^ 63 → all_scalars (signed_decimal n) ≡ true
int_scalars n few =
    let ascii = IsAscii-signed n few in
    ap all_scalars (sym (chars-IsAscii (signed_decimal n) ascii)) ∙ scalars-chars (signed_decimal n) (IsUtf8-from_ascii (signed_decimal n) ascii)

-- a line, and the end of a list or a map
pub line_scalars : (column : ℕ) (rest : Text) → all_scalars rest ≡ true → all_scalars (line_at column ++ rest) ≡ true
line_scalars column rest h = joined_scalars (line_at column) rest (spaces_scalars column) h

pub end_scalars : (column : ℕ) (empty : Bool) (bracket : Text) → all_scalars bracket ≡ true → all_scalars (closing_line column empty ++ bracket) ≡ true
end_scalars column empty bracket h1 = grind (arith, line_scalars)

mutual
  value_scalars : (value : TypedValue) (column depth : ℕ) → CanBeReadAt depth value → all_scalars (value_text column value) ≡ true
  value_scalars null_value column depth readable = refl
  value_scalars (bool_value true) column depth readable = refl
  value_scalars (bool_value false) column depth readable = refl
  value_scalars (int_value n) column depth readable = quotes_scalars (signed_decimal n) (int_scalars n readable)
  value_scalars (text_value text) column depth readable = quotes_scalars text readable
  value_scalars (list_value items) column depth readable =
      joined_scalars (nodes_text (column + 2) (value_nodes items)) _ (items_scalars items (column + 2) (suc depth) readable.1)
      (end_scalars column (has_no_nodes (value_nodes items)) (codes "]") refl)
  value_scalars (map_value pairs) column depth readable =
      joined_scalars (node_pairs_text (column + 2) (value_pairs pairs)) _ (pairs_scalars pairs (column + 2) (suc depth) readable.1)
      (end_scalars column (has_no_pairs (value_pairs pairs)) (codes "}") refl)

  items_scalars : (items : TypedValues) (column depth : ℕ) → AllCanBeReadAt depth items → all_scalars (nodes_text column (value_nodes items)) ≡ true
  items_scalars no_values column depth readable = refl
  items_scalars (values_and items item) column depth readable =
      joined_scalars (nodes_text column (value_nodes items)) _ (items_scalars items column depth readable.0)
      (line_scalars column (value_text column item ++ codes ",")
      (joined_scalars (value_text column item) (codes ",") (value_scalars item column depth readable.1) refl))

  pairs_scalars : (pairs : TypedPairs) (column depth : ℕ) → PairsCanBeReadAt depth pairs → all_scalars (node_pairs_text column (value_pairs pairs)) ≡ true
  pairs_scalars no_value_pairs column depth readable = refl
  pairs_scalars (value_pairs_and pairs key value) column depth readable =
      let of_value = value_text column value ++ codes "," in
      let of_key = value_text column key ++ (line_at column ++ (codes ": " ++ of_value)) in
      joined_scalars (node_pairs_text column (value_pairs pairs)) _ (pairs_scalars pairs column depth readable.0)
      (line_scalars column (codes "? " ++ of_key) (joined_scalars (value_text column key) _ (value_scalars key column depth readable.1.0)
      (line_scalars column (codes ": " ++ of_value)
      (joined_scalars (value_text column value) (codes ",") (value_scalars value column depth readable.1.1) refl))))

-- a document's bytes are UTF-8
pub document_utf8 : (value : TypedValue) → CanBeRead value → IsUtf8 (encode_utf8_all (document_text value))
document_utf8 value readable =
    (document_text value, (joined_scalars (value_text 0 value) (line_feed ∷ []) (value_scalars value 0 0 (readable_root value readable)) refl, refl))

-- the bytes of an integer's digits
pub digits_are : {A : Type 0} (digits : String A) (n : ℤ) → mag n < 2 ^ 63 → seen_text digits ≡ signed_decimal n → string_bytes digits ≡
    signed_decimal n
digits_are digits n few is =
    sym (encodes-chars (string_bytes digits) (IsUtf8-string_bytes digits)) ∙ ap encode_utf8_all is ∙ encodes-IsAscii (signed_decimal n) (IsAscii-signed n few)

pub fits_signed : (n : ℤ) → mag n < 2 ^ 63 → FitsSigned w64 n
fits_signed _ few = omega (arith, few)

pub not_parsed : {E : Type 0} (n : ℤ) (error : E) (answer : Result ℤ E) → answer ≡ Ok n → answer ≡ Err error → ⊥
not_parsed n error answer is also = cc
