-- A text of ASCII is its bytes.
use Rattle.yaml_pen.proofs.Common.{ℕ, ◌<◌, ◌≤◌, IsUtf8, length, slice_index_or as get_or, true, List, [], ◌∷◌, refl, ◌≡◌, length-append, inl, inr, ap, subst}
use Rattle.yaml_pen.proofs.Common.{sym, ◌∙◌, arith, cases_lt, nat_tests, IsUtf8-from_ascii, scalars-chars, chars-IsAscii, len_utf8, IsAscii, all_scalars}
use Rattle.yaml_pen.proofs.Common.{chars, text_bytes, utf8}
use Rattle.std.proofs.lemmas.{Str.length-encode, Str.byte_from_char, Str.Ascii.IsAscii-nil, Str.Ascii.IsAscii-cons}
use lib.Utf8.{encode, encodes}
use Rattle.yaml_pen.proofs.Writing.{utf8-bytes}

pub ascii-bytes : (bytes : List ℕ) → IsAscii bytes → bytes ≡ text_bytes utf8 bytes
ascii-bytes bytes is = utf8-bytes bytes (IsUtf8-from_ascii bytes is) ∙ ap (text_bytes utf8) (chars-IsAscii bytes is)

pub ascii-scalars : (bytes : List ℕ) → IsAscii bytes → all_scalars bytes ≡ true
ascii-scalars bytes is = ap all_scalars (sym (chars-IsAscii bytes is)) ∙ scalars-chars bytes (IsUtf8-from_ascii bytes is)

wide_length : (c : ℕ) → 128 ≤ c → 2 ≤ len_utf8 c
wide_length c wide = grind (arith, nat_tests)

-- a text of one byte is ASCII
one_is_ascii : (text bytes : List ℕ) → encodes text ≡ bytes → 1 ≤ length bytes → length bytes < 2 → get_or bytes 0 0 < 128
one_is_ascii [] bytes is some few = absurd (omega (arith, ap (λ (l : List ℕ). length l) is, some))
one_is_ascii (c ∷ rest) bytes is some few = elim (cases_lt c 128) [
  | inl low ↦ subst (λ b. b < 128) (sym (byte_from_char bytes (encodes rest) c (sym is) low)) low
  | inr wide ↦ absurd (omega (arith, ap (λ (l : List ℕ). length l) is, length-append (encode c) (encodes rest), length-encode c, wide_length c wide, few))
]

pub one_byte_ascii : (bytes : List ℕ) → IsUtf8 bytes → 1 ≤ length bytes → length bytes < 2 → get_or bytes 0 0 < 128
one_byte_ascii bytes is_text some few = one_is_ascii is_text.0 bytes is_text.1.1 some few

one_byte : (bytes : List ℕ) → 1 ≤ length bytes → length bytes < 2 → get_or bytes 0 0 ∷ [] ≡ bytes
one_byte [] some few = absurd (omega (arith, some))
one_byte (byte ∷ []) some few = refl
one_byte (byte ∷ other ∷ rest) some few = absurd (omega (arith, few))

-- whose character it is
pub one_byte_chars : (bytes : List ℕ) → IsUtf8 bytes → 1 ≤ length bytes → length bytes < 2 → get_or bytes 0 0 ∷ [] ≡ chars bytes
one_byte_chars bytes is_text some few =
    let low = one_byte_ascii bytes is_text some few in
    sym (chars-IsAscii (get_or bytes 0 0 ∷ []) (IsAscii-cons (get_or bytes 0 0) [] low IsAscii-nil)) ∙ ap chars (one_byte bytes some few)
