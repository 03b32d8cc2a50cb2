-- The bytes of a text decode to the text.
use Rattle.yaml_base.proofs.Common.{and_from, or_from, or_parts}
use Rattle.yaml_base.proofs.Common.{ℕ, ◌%◌, ◌*◌, ◌+◌, ◌-◌, ◌/◌, ◌<◌, Some, nat_le, nat_lt, encode_utf8, cond, false, true, ◌&&◌, List, [], ◌++◌, ◌∷◌}
use Rattle.yaml_base.proofs.Common.{refl, ◌≡◌, le-leb, le-ltb, lt-ltb, inl, inr, ap, sym, ◌∙◌, arith, and_parts, chars-encodes, all_scalars, chars}
use Rattle.yaml_base.proofs.Common.{encode_utf8_all, scalar_cases, Text, encode, Encoding, utf8, utf16_little, utf16_big}
use Rattle.std.{proofs.lemmas.Bool.lt-leb, proofs.lemmas.Bool.cases_lt, specs.Char.IsScalar}
use Rattle.yaml_base.specs.Decode.{units_upper_first, units_lower_first, text_of_units, decode}
use Rattle.yaml_base.specs.Encoding.{utf16_units, upper_first, lower_first, text_bytes, OneText}

-- a text's code units
abbrev pub units_of : Text → List ℕ
units_of [] = []
units_of (c ∷ rest) = utf16_units c ++ units_of rest

units_upper_first-upper_first : (units : List ℕ) → units_upper_first (upper_first units) ≡ units
units_upper_first-upper_first [] = refl
units_upper_first-upper_first (u ∷ rest) = grind (arith, units_upper_first-upper_first rest)

units_lower_first-lower_first : (units : List ℕ) → units_lower_first (lower_first units) ≡ units
units_lower_first-lower_first [] = refl
units_lower_first-lower_first (u ∷ rest) = grind (arith, units_lower_first-lower_first rest)

upper_first-append : (xs ys : List ℕ) → upper_first (xs ++ ys) ≡ upper_first xs ++ upper_first ys
upper_first-append [] ys = refl
upper_first-append (x ∷ xs) ys = ap (λ l. (x / 0x100) ∷ (x % 0x100) ∷ l) (upper_first-append xs ys)

lower_first-append : (xs ys : List ℕ) → lower_first (xs ++ ys) ≡ lower_first xs ++ lower_first ys
lower_first-append [] ys = refl
lower_first-append (x ∷ xs) ys = ap (λ l. (x % 0x100) ∷ (x / 0x100) ∷ l) (lower_first-append xs ys)

pub text_bytes-big : (text : Text) → text_bytes utf16_big text ≡ upper_first (units_of text)
text_bytes-big [] = refl
text_bytes-big (c ∷ rest) =
    ap (λ l. upper_first (utf16_units c) ++ l) (text_bytes-big rest) ∙ sym (upper_first-append (utf16_units c) (units_of rest))

pub text_bytes-little : (text : Text) → text_bytes utf16_little text ≡ lower_first (units_of text)
text_bytes-little [] = refl
text_bytes-little (c ∷ rest) =
    ap (λ l. lower_first (utf16_units c) ++ l) (text_bytes-little rest) ∙ sym (lower_first-append (utf16_units c) (units_of rest))

pub text_bytes-utf8 : (text : Text) → text_bytes utf8 text ≡ encode_utf8_all text
text_bytes-utf8 [] = refl
text_bytes-utf8 (c ∷ rest) = ap (λ l. encode_utf8 c ++ l) (text_bytes-utf8 rest)

-- no surrogate is alone
not_a_surrogate : (c : ℕ) → IsScalar c → (nat_le 0xD800 c && nat_lt c 0xDC00) ≡ false
not_a_surrogate c s = grind (arith, lt-leb, le-leb, le-ltb)

lone : (c : ℕ) (units : List ℕ) → IsScalar c → text_of_units (c ∷ units) ≡ c ∷ text_of_units units
lone c [] s = refl
lone c (u ∷ us) s =
    ap (λ t. cond t ((0x10000 + (c - 0xD800) * 0x400 + (u - 0xDC00)) ∷ text_of_units us) (c ∷ text_of_units (u ∷ us))) (not_a_surrogate c s)

below_end : (c : ℕ) → IsScalar c → c < 0x110000
below_end c s = elim (scalar_cases c s) as (λ _. c < 0x110000) [ inl low ↦ omega arith | inr high ↦ omega arith ]

text_of_units-utf16_units : (c : ℕ) (units : List ℕ) → IsScalar c → text_of_units (utf16_units c ++ units) ≡ c ∷ text_of_units units
text_of_units-utf16_units c units s = grind (arith, cases_lt, lt-ltb, lone, le-ltb, below_end, le-leb)

text_of_units-units_of : (text : Text) → all_scalars text ≡ true → text_of_units (units_of text) ≡ text
text_of_units-units_of [] s = refl
text_of_units-units_of (c ∷ rest) s = grind (arith, and_parts, and_from, or_parts, or_from, text_of_units-utf16_units, text_of_units-units_of rest)

pub decode-encode : (encoding : Encoding) (text : Text) → all_scalars text ≡ true → decode (Some encoding) (encode (Some encoding) text) ≡ text
unfolding decode
decode-encode utf8 text s = ap chars (text_bytes-utf8 text) ∙ chars-encodes text s
decode-encode utf16_little text s = ap text_of_units (ap units_lower_first (text_bytes-little text) ∙ units_lower_first-lower_first (units_of text))
    ∙ text_of_units-units_of text s
decode-encode utf16_big text s = ap text_of_units (ap units_upper_first (text_bytes-big text) ∙ units_upper_first-upper_first (units_of text))
    ∙ text_of_units-units_of text s

-- So texts with the same bytes are the same.
pub one_text : OneText
one_text encoding t u t_scalars u_scalars same =
    sym (decode-encode encoding t t_scalars) ∙ ap (decode (Some encoding)) same ∙ decode-encode encoding u u_scalars
