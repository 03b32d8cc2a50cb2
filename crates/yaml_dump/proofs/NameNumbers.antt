-- The name that a dump gives the shared node of a rank has the rank as its number.
use Rattle.yaml_base.proofs.Common.{suc, zero, ℕ, ◌+◌, ◌*◌, ◌/◌, ◌<◌, ◌≤◌, length, replicate, cond, false, List, ◌++◌, refl, ◌≡◌}
use Rattle.yaml_base.proofs.Common.{eqb-true, arith, nat_tests, digit_glyph, digits_onto, numbered_name, fold}
use Rattle.yaml_base.specs.{graphs.Meetings.decimal_digits, Settings.largest_usize}
use Rattle.yaml_dump.specs.Composition.{with_digit, number_in_name}

-- a digit that fits
digit_taken : (number digit : ℕ) → digit < 10 → number * 10 + digit ≤ largest_usize → with_digit number (digit_glyph false digit) ≡ number * 10 + digit
digit_taken number digit small fits = grind (arith, nat_tests)

-- digits that were written are read, before those that follow
digits_read : (room number : ℕ) (rest : List ℕ) → number < room → number ≤ largest_usize
    → fold with_digit 0 (digits_onto room 10 false number rest) ≡ fold with_digit number rest
digits_read zero number rest small fits = absurd (omega (arith, small))
digits_read (suc room) number rest small fits =
    grind (arith, nat_tests, digit_glyph, fold, with_digit, cond, digits_onto, eqb-true, digit_taken, digits_read room (number / 10))

-- leading zeros don't count
zeros_read : (count : ℕ) (digits : List ℕ) → fold with_digit 0 (replicate count 0x30 ++ digits) ≡ fold with_digit 0 digits
zeros_read zero digits = refl
zeros_read (suc count) digits = zeros_read count digits

pub name_read : (number : ℕ) → number ≤ largest_usize → number_in_name (numbered_name number) ≡ number
unfolding decimal_digits
name_read number fits = grind (arith, nat_tests, zeros_read, length, digits_onto, digits_read)
