-- The integers of digits.
use Rattle.yaml_base.proofs.Common.{ℕ, ◌<◌, suc, Bool, List, [], ◌∷◌, refl, ◌≡◌, ap, subst, sym, ◌∙◌, arith, if◌then◌else◌}
use Rattle.std.proofs.Common.{w64, pos, negsuc}
use Rattle.std.proofs.lemmas.Fmt.{decimal_is_IsNumeral, parse-signed_decimal}
use Rattle.std.proofs.lemmas.Bool.{ne_eqb}
use Rattle.std.specs.Char.{digit_value}
use Rattle.std.specs.Fmt.{decimal, signed_decimal}
use Rattle.std.specs.Int.Signed.{mag}
use Rattle.std.specs.Prelude.{Decides, ℤ, neg_ℤ, ◌^◌, Result, Ok, Err}
use Rattle.std.proofs.lemmas.Slice.Eq.{bytes_eq-Decides}
use Rattle.std.specs.Str.{bytes_eq}
use Rattle.std.specs.Str.Parse.{AllDigits, ParsesSigned, digits_value}
use Rattle.yaml_read.proofs.Scalars.{fits_signed}
use Rattle.yaml_json_value.specs.Typed.{IsIntegerText, integer_of}

of_digits : (digits : List ℕ) → AllDigits 10 digits → integer_of digits ≡ pos (digits_value 10 digits)
of_digits [] all = refl
of_digits (c ∷ digits) all =
    ap (λ (b : Bool). if b then neg_ℤ (pos (digits_value 10 digits)) else pos (digits_value 10 (c ∷ digits))) (ne_eqb c 0x2D (λ e. not_minus c all.0 e))
  where
    not_minus : (c : ℕ) → digit_value c < 10 → c ≡ 0x2D → ⊥
    not_minus c few e = omega (arith, ap digit_value e, few)

-- the digits of an integer say it
pub spelled : (n : ℤ) → mag n < 2 ^ 63 → integer_of (signed_decimal n) ≡ n
spelled (pos n) few =
    let digits = decimal_is_IsNumeral n (omega (arith, few)) in
    of_digits (decimal n) digits.0.1 ∙ ap pos digits.1
spelled (negsuc n) few =
    let digits = decimal_is_IsNumeral (suc n) (omega (arith, few)) in
    ap (λ m. neg_ℤ (pos m)) digits.1

pub is_integer : (text : List ℕ) (n : ℤ) → mag n < 2 ^ 63 → text ≡ signed_decimal n → IsIntegerText text × (n ≡ integer_of text)
is_integer text n few is =
    let same : n ≡ integer_of text = sym (spelled n few) ∙ ap integer_of (sym is) in
    (record { digits = is ∙ ap signed_decimal same; bits = subst (λ m. mag m < 2 ^ 63) same few }, same)

-- an integer is parsed
pub parsed : {E : Type 0} (text : List ℕ) (answer : Result ℤ E) → IsIntegerText text → ParsesSigned w64 10 text answer → answer ≡ Ok (integer_of text)
parsed text answer integer parses =
    parse-signed_decimal w64 (integer_of text) text answer (fits_signed (integer_of text) integer.bits) integer.bits integer.digits parses

pub not_parsed : {E : Type 0} (text : List ℕ) (answer : Result ℤ E) (error : E) → ParsesSigned w64 10 text answer → answer ≡ Err error → IsIntegerText text → ⊥
not_parsed text answer error parses is integer = apart (sym (parsed text answer integer parses) ∙ is)
  where
    apart : Ok (integer_of text) ≡ Err error → ⊥
    apart e = cc

-- a text that was parsed isn't spelled so
pub not_spelled : {E : Type 0} (text : List ℕ) (n : ℤ) (answer : Result ℤ E) → ParsesSigned w64 10 text answer → answer ≡ Ok n
    → (text ≡ signed_decimal n → ⊥) → IsIntegerText text → ⊥
not_spelled {E} text n answer parses is other integer = other (integer.digits ∙ ap signed_decimal (inside (sym (parsed text answer integer parses) ∙ is)))
  where
    inside : ◌≡◌ {A = Result ℤ E} (Ok (integer_of text)) (Ok n) → integer_of text ≡ n
    inside e = cc

-- whether these are the digits of an integer
pub spells : (digits written : List ℕ) (n : ℤ) (same : Bool) → written ≡ signed_decimal n → same ≡ bytes_eq digits written
    → Decides same (digits ≡ signed_decimal n)
spells digits written n same is eq =
    subst (λ (t : List ℕ). Decides same (digits ≡ t)) is
    (subst (λ (b : Bool). Decides b (digits ≡ written)) (sym eq) (bytes_eq-Decides digits written))
