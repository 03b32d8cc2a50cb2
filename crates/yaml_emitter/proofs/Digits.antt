-- The digits of integers.
use Rattle.yaml_emitter.proofs.Common.{ℕ, ◌<◌, negsuc, pos, ℤ, ◌≡◌, FitsSigned, ap, ◌∙◌, arith, chars-IsAscii, chars, Text}
use Rattle.std.{proofs.Common.Fits, proofs.Common.w64, proofs.lemmas.Fmt.IsAscii-decimal, proofs.lemmas.Fmt.IsAscii-signed, specs.Fmt.decimal}
use Rattle.std.{specs.Fmt.signed_decimal, specs.Int.Signed.mag, specs.Prelude.◌^◌}

-- an integer of 64 bits
pub mag_fits : (n : ℤ) → FitsSigned w64 n → mag n < 2 ^ 63
mag_fits (pos n) fits = omega (arith, fits)
mag_fits (negsuc n) fits = omega (arith, fits)

number_fits : (n : ℕ) → Fits w64 n → n < 2 ^ 64
number_fits n fits = omega (arith, fits)

-- the characters of an integer's digits
pub digits_seen : (n : ℤ) (printed : Text) → FitsSigned w64 n → printed ≡ signed_decimal n → chars printed ≡ signed_decimal n
digits_seen n printed fits is = ap chars is ∙ chars-IsAscii (signed_decimal n) (IsAscii-signed n (mag_fits n fits))

-- the characters of a number's digits
pub number_seen : (n : ℕ) (printed : Text) → Fits w64 n → printed ≡ decimal n → chars printed ≡ signed_decimal (pos n)
number_seen n printed fits is = ap chars is ∙ chars-IsAscii (decimal n) (IsAscii-decimal n (number_fits n fits))
