-- A name is `id` and its number, which is padded to three digits.
use Rattle.yaml_base.proofs.Common.{suc, zero, ℕ, ◌-◌, ◌/◌, ◌<◌, length, replicate, cond, false, List, [], ◌++◌, ◌∷◌, ◌≡◌}
use Rattle.yaml_base.proofs.Common.{eq-eqb, append-nil, ap, subst, sym, ◌∙◌, arith, nat_tests, chars-IsAscii, digit_glyph, digits_onto, chars, numbered_name}
use Rattle.std.{proofs.Math.Nat.pow-suc, proofs.lemmas.Fmt.IsAscii-decimal, proofs.lemmas.Str.IsAscii-append, proofs.lemmas.Str.Ascii.IsAscii-nil}
use Rattle.std.{proofs.lemmas.Str.Ascii.IsAscii-cons, specs.Prelude.◌^◌, specs.Str.IsAscii}
use Rattle.std.specs.Fmt.{char_count, decimal, digits, format_spec, padded_integral, styled_decimal}
use Rattle.yaml_base.specs.{Settings.largest_usize, graphs.Meetings.decimal_digits}

ascii_zeros : (count : ℕ) → IsAscii (replicate count 0x30)
ascii_zeros zero = IsAscii-nil
ascii_zeros (suc count) = IsAscii-cons 0x30 (replicate count 0x30) (omega arith) (ascii_zeros count)

-- no sign, no prefix and no fill
bare : (short : ℕ) (number : List ℕ) → 105 ∷ 100 ∷ (replicate (short - 0 - 0) 0x30 ++ (number ++ [])) ≡ 105 ∷ 100 ∷ (replicate short 0x30 ++ number)
bare short number = grind (arith, nat_tests, append-nil)

-- as many turns as there are digits are enough
turns_same : (turns others number : ℕ) (rest : List ℕ) → number < turns → number < 10 ^ suc others
    → digits_onto turns 10 false number rest ≡ digits_onto (suc others) 10 false number rest
turns_same zero others number rest small bound = absurd (omega (arith, small))
turns_same (suc turns) zero number rest small bound = grind (arith, nat_tests, digit_glyph, eq-eqb, cond, digits_onto)
turns_same (suc turns) (suc others) number rest small bound =
    grind (arith, nat_tests, digit_glyph, cond, digits_onto, pow-suc, turns_same turns others (number / 10), suc others)

digits_are : (place : ℕ) → place < 2 ^ 64 → decimal_digits place ≡ decimal place
unfolding decimal_digits digits
digits_are place small = turns_same (suc place) 63 place [] (omega arith) (omega (arith, small))

-- a name by its digits
abbrev name_of : List ℕ → List ℕ
name_of number = 105 ∷ 100 ∷ (replicate (3 - length number) 0x30 ++ number)

padded_name : (place : ℕ) → place < 2 ^ 64 → 105 ∷ 100 ∷ padded_integral (format_spec 32 0 4 3 largest_usize) false [] (decimal place) ≡ numbered_name place
unfolding padded_integral char_count
padded_name place small = bare (3 - length (decimal place)) (decimal place) ∙ sym (ap name_of (digits_are place small))

ascii_padded : (short : ℕ) (number : List ℕ) → IsAscii number → IsAscii (105 ∷ 100 ∷ (replicate short 0x30 ++ number))
ascii_padded short number ascii =
    IsAscii-cons 105 (100 ∷ (replicate short 0x30 ++ number)) (omega arith)
    (IsAscii-cons 100 (replicate short 0x30 ++ number) (omega arith) (IsAscii-append (replicate short 0x30) number (ascii_zeros short) ascii))

ascii_name : (place : ℕ) → place < 2 ^ 64 → IsAscii (numbered_name place)
ascii_name place small = subst IsAscii (sym (ap name_of (digits_are place small)))
    (ascii_padded (3 - length (decimal place)) (decimal place) (IsAscii-decimal place small))

-- the characters of a printed name
pub printed_name : (place : ℕ) (printed bytes : List ℕ) → place < 2 ^ 64 → printed ≡ styled_decimal (format_spec 32 0 4 3 largest_usize) place
    → bytes ≡ 105 ∷ 100 ∷ printed → chars bytes ≡ numbered_name place
printed_name place printed bytes small is_printed is = grind (arith, nat_tests, numbered_name, padded_name, chars, chars-IsAscii, ascii_name)
