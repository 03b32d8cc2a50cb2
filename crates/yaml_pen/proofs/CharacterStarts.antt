-- A text has as many characters as bytes that begin one.
use Rattle.yaml_pen.proofs.Common.{ℕ, ◌+◌, ◌<◌, ◌≤◌, if◌then◌else◌, IsUtf8, length, slice_index_or as get_or, take, Bool, false, true, List, [], ◌++◌, ◌∷◌}
use Rattle.yaml_pen.proofs.Common.{refl, ◌≡◌, inl, inr, ap, sym, ◌∙◌, add-one, arith, cases_lt, nat_tests, encodes-chars, is_char_start, chars}
use Rattle.std.{proofs.Common.le-ltb, proofs.Common.lt-ltb, proofs.Common.take-suc, specs.Prelude.◌%◌, specs.Prelude.◌/◌}
use lib.Utf8.{encode, encodes, next}
use mir.Val.{bool_byte}

-- the number of bytes that begin a character
abbrev pub starts : List ℕ → ℕ
starts [] = 0
starts (b ∷ bytes) = (if is_char_start b then 1 else 0) + starts bytes

starts-append : (xs ys : List ℕ) → starts (xs ++ ys) ≡ starts xs + starts ys
starts-append [] ys = omega arith
starts-append (x ∷ xs) ys = omega (arith, starts-append xs ys)

-- one more byte was looked at
pub starts_more : (bytes : List ℕ) (place : ℕ) → place < length bytes
    → starts (take (place + 1) bytes) ≡ starts (take place bytes) + (if is_char_start (get_or bytes place 0) then 1 else 0)
starts_more bytes place below =
    ap (λ n. starts (take n bytes)) (add-one place) ∙ ap starts (take-suc bytes place 0 below)
    ∙ starts-append (take place bytes) (get_or bytes place 0 ∷ [])
    ∙ omega arith

pub starts_step : (bytes : List ℕ) (place count : ℕ) (begins : Bool) → place < length bytes → count ≡ starts (take place bytes)
    → begins ≡ is_char_start (get_or bytes place 0) → count + bool_byte begins ≡ starts (take (place + 1) bytes)
starts_step bytes place count true below h e = omega (arith, h, starts_more bytes place below, ap {B = ℕ} (λ b. if b then 1 else 0) e)
starts_step bytes place count false below h e = omega (arith, h, starts_more bytes place below, ap {B = ℕ} (λ b. if b then 1 else 0) e)

pub bool_byte_most : (b : Bool) → bool_byte b ≤ 1
bool_byte_most true = omega arith
bool_byte_most false = omega arith

first_starts : (b : ℕ) → 192 ≤ b → is_char_start b ≡ true
first_starts b high = grind (arith, nat_tests)

ascii_starts : (b : ℕ) → b < 128 → is_char_start b ≡ true
ascii_starts b low = grind (arith, nat_tests)

next_starts : (bits : ℕ) → is_char_start (next bits) ≡ false
next_starts bits = let rest : bits % 64 < 64 = omega arith in grind (arith, nat_tests)

-- each character has one
one_start : (c : ℕ) → starts (encode c) ≡ 1
unfolding encode
one_start c = elim (cases_lt c 128) [
  | inl one ↦ rw (lt-ltb c 128 one, ascii_starts c one)
  | inr more ↦ elim (cases_lt c 2048) [
    | inl two ↦ rw (le-ltb c 128 more, lt-ltb c 2048 two, first_starts (192 + c / 64) (omega arith), next_starts c)
    | inr many ↦ elim (cases_lt c 65536) [
      | inl three ↦ rw (
        le-ltb c 128 more,
        le-ltb c 2048 many,
        lt-ltb c 65536 three,
        first_starts (224 + c / 4096) (omega arith),
        next_starts (c / 64),
        next_starts c,
      )
      | inr four ↦ rw (
        le-ltb c 128 more,
        le-ltb c 2048 many,
        le-ltb c 65536 four,
        first_starts (240 + c / 262144) (omega arith),
        next_starts (c / 4096),
        next_starts (c / 64),
        next_starts c,
      )
    ]
  ]
]

starts-encodes : (text : List ℕ) → starts (encodes text) ≡ length text
starts-encodes [] = refl
starts-encodes (c ∷ rest) = omega (arith, starts-append (encode c) (encodes rest), one_start c, starts-encodes rest)

pub starts-chars : (bytes : List ℕ) → IsUtf8 bytes → starts bytes ≡ length (chars bytes)
starts-chars bytes is = ap starts (sym (encodes-chars bytes is)) ∙ starts-encodes (chars bytes)
