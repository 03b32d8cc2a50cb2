-- The spelling of a JSON number means the same number.
use Rattle.yaml_base.proofs.Common.{nat_tests, ℕ, ◌*◌, ◌+◌, Option, neg_ℤ, negsuc, pos, ℤ, ◌+ℤ◌, Bool, false, true, ◌≡◌, append-nil, arith, Decides-int_eq}
use Rattle.yaml_base.proofs.Common.{Text, JsonExponent, JsonNumber, json_value, number_meant, means_number, signed}
use Rattle.std.{proofs.lemmas.Int.ints, proofs.lemmas.Int.Digits.digits_value_push, specs.Ordering.int_eq, specs.Prelude.◌*ℤ◌, specs.Prelude.◌-ℤ◌}

same_integer : (a b : ℤ) → a ≡ b → int_eq a b ≡ true
same_integer a b h = (Decides-int_eq a b).1 h

one_above : (e : ℤ) → (neg_ℤ (pos 0) +ℤ e) -ℤ (neg_ℤ (pos 1) +ℤ e) ≡ pos 1
one_above e = omega (arith, ints)

one_below : (e : ℤ) → (neg_ℤ (pos 1) +ℤ e) -ℤ (neg_ℤ (pos 0) +ℤ e) ≡ negsuc 0
one_below e = omega (arith, ints)

tenfold : (negative : Bool) (n : ℕ) → signed negative (n * 10 + 0) *ℤ pos 1 ≡ signed negative n *ℤ pos 10
tenfold true n = omega (arith, ints)
tenfold false n = omega (arith, ints)

-- the meaning of a number's spelling is the number, by its parts
keeps : (negative : Bool) (whole : Text) (fraction : Option Text) (exponent : Option JsonExponent)
    → means_number (json_value (record { negative = negative; whole = whole; fraction = fraction; exponent = exponent }))
    (number_meant (record { negative = negative; whole = whole; fraction = fraction; exponent = exponent })) ≡ true
keeps negative whole fraction exponent = grind (arith, nat_tests, one_below, digits_value_push, tenfold, one_above, same_integer, append-nil)

-- the meaning of a number's spelling is the number
pub spelling_keeps_value : (number : JsonNumber) → means_number (json_value number) (number_meant number) ≡ true
spelling_keeps_value number = keeps number.negative number.whole number.fraction number.exponent
