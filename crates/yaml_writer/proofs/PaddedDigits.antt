-- Decimal digits as YAML 1.1 reads them: after `0` to the base of 8, which is the same number only of an octal digit after zeros.
use Rattle.yaml_writer.proofs.Common.{ℕ, suc, zero, Some, ◌<◌, ◌==◌, codes, length, drop, Bool, false, not, true, ◌&&◌, [], ◌∷◌, refl, ◌≡◌}
use Rattle.yaml_writer.proofs.Common.{eqb-true, ltb-true, true≢false, ap, sym, ◌∙◌, arith, and_parts, and_from, not_from_false, digit_value}
use Rattle.yaml_writer.proofs.Common.{digit_from_value, list_all, Text, is_decimal, are_digits, is_word, is_whole_part, digit_unlike}
use Rattle.std.proofs.lemmas.Bool.{lt-leb}
use Rattle.yaml_base.proofs.Common.{◌+◌, ◌*◌, ◌||◌, ◌⊎◌, inl, inr, or_cases, or_parts, or_left, or_right, cond, nat_le, pos, neg_ℤ}
use Rattle.yaml_base.proofs.Common.{digits_value, meant_integer, first_reading, signed, ungrouped, are_grouped, octal_11, numbers_11, is_underscore, past}
use Rattle.std.{specs.Char.is_digit, specs.List.prefix_len, specs.Str.Parse.digits_value_after}
use Rattle.std.{proofs.Math.IntN.neg_ℤ-neg_ℤ, proofs.lemmas.Str.digit_value_digit, specs.Int.IsInRange}
use Rattle.yaml_base.proofs.{AllPass.all_pass, NumberCuts.digits_ungrouped}
use Rattle.yaml_base.proofs.NumbersByCore.{passed, found, given}
use Rattle.yaml_base.proofs.NumbersRead.{float_11_none, based_11_none, integer_without_sign, leading, zero_alone, whole_11}
use Rattle.yaml_writer.proofs.PlainShapes.{all_digits}
use Rattle.yaml_writer.specs.PlainTags.{is_zero, is_padded_digit, are_integer_digits}

-- ---- values

-- a zero at the front adds nothing
zero_first : (base c : ℕ) (digits : Text) → (c == 0x30) ≡ true → digits_value base (c ∷ digits) ≡ digits_value base digits
zero_first base c digits begins =
    let start : 0 * base + 0 ≡ 0 = omega arith in
    ap (λ c. digits_value base (c ∷ digits)) (eqb-true c 0x30 begins) ∙ ap (λ n. digits_value_after base n digits) start

-- At most one character follows the zeros of a text.
abbrev one_behind : Text → Bool
one_behind digits = nat_le (length (past is_zero digits)) 1

behind_zero : (c : ℕ) (digits : Text) → (c == 0x30) ≡ true → one_behind (c ∷ digits) ≡ one_behind digits
behind_zero c digits begins =
    let more : 1 + prefix_len is_zero digits ≡ suc (prefix_len is_zero digits) = omega arith in
    ap (λ c. one_behind (c ∷ digits)) (eqb-true c 0x30 begins) ∙ ap (λ k. nat_le (length (drop k (0x30 ∷ digits))) 1) more

behind_other : (c d : ℕ) (digits : Text) → (c == 0x30) ≡ false → one_behind (c ∷ d ∷ digits) ≡ false
behind_other c d digits other =
    let some_more : 1 < length (c ∷ d ∷ digits) = omega arith in
    ap (λ x. nat_le (length (drop (cond x (1 + prefix_len is_zero (d ∷ digits)) 0) (c ∷ d ∷ digits))) 1) other
    ∙ lt-leb (length (c ∷ d ∷ digits)) 1 some_more

-- so it is the same number to both bases
padded_value : (digits : Text) → one_behind digits ≡ true → digits_value 8 digits ≡ digits_value 10 digits
padded_value [] h = refl
padded_value (c ∷ digits) h = by (c == 0x30) digits refl h (padded_value digits)
  where
    by : (x : Bool) (digits : Text) → (c == 0x30) ≡ x → one_behind (c ∷ digits) ≡ true
        → (one_behind digits ≡ true → digits_value 8 digits ≡ digits_value 10 digits) → digits_value 8 (c ∷ digits) ≡ digits_value 10 (c ∷ digits)
    by true digits e h later = zero_first 8 c digits e ∙ later (sym (behind_zero c digits e) ∙ h) ∙ sym (zero_first 10 c digits e)
    by false [] e h later = refl
    by false (d ∷ digits) e h later = absurd (true≢false (sym h ∙ behind_other c d digits e))

-- Of two numbers the less stays so before the same digits.
stays_less : (a b : ℕ) (digits : Text) → a < b → digits_value_after 8 a digits < digits_value_after 10 b digits
stays_less a b [] less = less
stays_less a b (c ∷ digits) less =
    let next : a * 8 + digit_value c < b * 10 + digit_value c = omega (arith, less) in
    stays_less (a * 8 + digit_value c) (b * 10 + digit_value c) digits next

-- digits whose first isn't 0
less_to_8 : (first second : ℕ) → 0 < first → (0 * 8 + first) * 8 + second < (0 * 10 + first) * 10 + second
less_to_8 first second some = omega (arith, some)

less_by : (a b c d : ℕ) → a ≡ c → b ≡ d → c < d → a < b
less_by a b c d first second less = omega (arith, first, second, less)

apart : (a b : ℕ) → a < b → a ≡ b → ⊥
apart a b less same = omega (arith, less, same)

-- a decimal digit other than 0
some_value : (c : ℕ) → is_decimal c ≡ true → (c == 0x30) ≡ false → 0 < digit_value c
some_value c digit other = by (digit_value c) refl
  where
    within : IsInRange 48 57 c
    within = digit_from_value c (ltb-true (digit_value c) 10 digit)

    by : (n : ℕ) → digit_value c ≡ n → 0 < digit_value c
    by (suc n) e = omega (arith, e)
    by zero e =
        let is : c ≡ 48 = omega (arith, e, digit_value_digit c within) in
        absurd (true≢false (ap (λ c. c == 0x30) (sym is) ∙ other))

-- otherwise it is a lesser number to the base of 8
other_value : (digits : Text) → list_all is_decimal digits ≡ true → one_behind digits ≡ false → digits_value 8 digits < digits_value 10 digits
other_value [] decimal h = absurd (true≢false h)
other_value (c ∷ digits) decimal h = by (c == 0x30) digits refl decimal h (other_value digits)
  where
    by : (x : Bool) (digits : Text) → (c == 0x30) ≡ x → list_all is_decimal (c ∷ digits) ≡ true → one_behind (c ∷ digits) ≡ false
        → (list_all is_decimal digits ≡ true → one_behind digits ≡ false → digits_value 8 digits < digits_value 10 digits)
        → digits_value 8 (c ∷ digits) < digits_value 10 (c ∷ digits)
    by true digits e decimal h later =
        let less = later (and_parts (is_decimal c) (list_all is_decimal digits) decimal).1 (sym (behind_zero c digits e) ∙ h) in
        less_by (digits_value 8 (c ∷ digits)) (digits_value 10 (c ∷ digits)) (digits_value 8 digits) (digits_value 10 digits)
        (zero_first 8 c digits e) (zero_first 10 c digits e) less
    by false [] e decimal h later = absurd (true≢false (sym (ap (λ x. nat_le (length (drop (cond x 1 0) (c ∷ []))) 1) e) ∙ h))
    by false (d ∷ digits) e decimal h later =
        let least = some_value c (and_parts (is_decimal c) (list_all is_decimal (d ∷ digits)) decimal).0 e in
        stays_less ((0 * 8 + digit_value c) * 8 + digit_value d) ((0 * 10 + digit_value c) * 10 + digit_value d) digits
        (less_to_8 (digit_value c) (digit_value d) least)

-- a number by its sign and its size
same_size : (negative : Bool) (a b : ℕ) → meant_integer (signed negative a) ≡ meant_integer (signed negative b) → a ≡ b
same_size negative a b e = let same : signed negative a ≡ signed negative b = cc in by negative same
  where
    by : (x : Bool) → signed x a ≡ signed x b → a ≡ b
    by true h = let same : pos a ≡ pos b = sym (neg_ℤ-neg_ℤ (pos a)) ∙ ap neg_ℤ h ∙ neg_ℤ-neg_ℤ (pos b) in cc
    by false h = let same : pos a ≡ pos b = h in cc

-- ---- readings

-- an integer by 1.1, without its sign
octal_read : (negative : Bool) (c d : ℕ) (digits : Text) → (c == 0x30) ≡ true → list_all (λ c. is_digit c 8) (d ∷ digits) ≡ true
    → octal_11 negative (c ∷ d ∷ digits) ≡ Some (meant_integer (signed negative (digits_value 8 (ungrouped (d ∷ digits)))))
octal_read negative c d digits begins octal =
    given (c == 0x30 && are_grouped 8 (d ∷ digits)) _ (and_from _ _ begins
    (all_pass (λ c. is_digit c 8) (λ c. is_digit c 8 || is_underscore c) (λ c h. or_left (is_digit c 8) _ h) (d ∷ digits) octal))

-- digits that 1.1 reads as an integer in a base
abbrev pub IsInteger : Bool → ℕ → Text → Type 0
IsInteger negative base digits = first_reading (numbers_11 negative digits) ≡ meant_integer (signed negative (digits_value base digits))

-- after `0` to the base of 8
octal_by_11 : (negative : Bool) (c d : ℕ) (digits : Text) → (c == 0x30) ≡ true → list_all is_decimal (c ∷ d ∷ digits) ≡ true
    → list_all (λ c. is_digit c 8) (c ∷ d ∷ digits) ≡ true → IsInteger negative 8 (c ∷ d ∷ digits)
octal_by_11 negative c d digits begins decimal octal =
    let later : list_all is_decimal (d ∷ digits) ≡ true = (and_parts (is_decimal c) (list_all is_decimal (d ∷ digits)) decimal).1 in
    let digit : is_decimal d ≡ true = (and_parts (is_decimal d) (list_all is_decimal digits) later).0 in
    passed _ _ (float_11_none negative c (d ∷ digits) decimal)
    ∙ passed _ _ (based_11_none negative 0x62 2 c (d ∷ digits) (digit_unlike d 0x62 refl digit))
    ∙ passed _ _ (based_11_none negative 0x78 16 c (d ∷ digits) (digit_unlike d 0x78 refl digit))
    ∙ found _ _ _ (octal_read negative c d digits begins (and_parts (is_digit c 8) (list_all (λ c. is_digit c 8) (d ∷ digits)) octal).1)
    ∙ ap (λ t. meant_integer (signed negative (digits_value 8 t))) (digits_ungrouped (d ∷ digits) later)
    ∙ ap (λ n. meant_integer (signed negative n)) (sym (zero_first 8 c (d ∷ digits) begins))

-- an octal digit after zeros to either base
padded_by_11 : (negative : Bool) (c : ℕ) (digits : Text) → list_all is_decimal (c ∷ digits) ≡ true → is_padded_digit (c ∷ digits) ≡ true
    → IsInteger negative 10 (c ∷ digits)
padded_by_11 negative c digits decimal h = by (c == 0x30) digits refl decimal h
  where
    by : (x : Bool) (digits : Text) → (c == 0x30) ≡ x → list_all is_decimal (c ∷ digits) ≡ true → is_padded_digit (c ∷ digits) ≡ true
        → IsInteger negative 10 (c ∷ digits)
    by false digits e decimal h = integer_without_sign negative c digits decimal (leading e)
    by true [] e decimal h = integer_without_sign negative c [] decimal (zero_alone (ap (λ c. c ∷ []) (eqb-true c 0x30 e)))
    by true (d ∷ digits) e decimal h =
        let both = and_parts (are_digits 8 (c ∷ d ∷ digits)) (one_behind (c ∷ d ∷ digits)) h in
        octal_by_11 negative c d digits e decimal (all_digits 8 (c ∷ d ∷ digits) both.0)
        ∙ ap (λ n. meant_integer (signed negative n)) (padded_value (c ∷ d ∷ digits) both.1)

pub integer_by_11 : (negative : Bool) (digits : Text) → are_digits 10 digits ≡ true → are_integer_digits digits ≡ true → IsInteger negative 10 digits
integer_by_11 negative [] decimal h = absurd (true≢false (sym decimal))
integer_by_11 negative (c ∷ digits) decimal h = by (or_cases (is_whole_part (c ∷ digits)) (is_padded_digit (c ∷ digits)) h)
  where
    all : list_all is_decimal (c ∷ digits) ≡ true
    all = all_digits 10 (c ∷ digits) decimal

    by : (is_whole_part (c ∷ digits) ≡ true) ⊎ (is_padded_digit (c ∷ digits) ≡ true) → IsInteger negative 10 (c ∷ digits)
    by (inl whole) = integer_without_sign negative c digits all (whole_11 c digits whole)
    by (inr padded) = padded_by_11 negative c digits all padded

-- other octal digits: a lesser number
pub other_by_11 : (negative : Bool) (digits : Text) → are_digits 10 digits ≡ true → are_integer_digits digits ≡ false → are_digits 8 digits ≡ true
    → first_reading (numbers_11 negative digits) ≡ meant_integer (signed negative (digits_value 10 digits)) → ⊥
other_by_11 negative [] decimal other octal e = absurd (true≢false (sym decimal))
other_by_11 negative (c ∷ digits) decimal other octal e = by (c == 0x30) digits refl decimal other octal e
  where
    by : (x : Bool) (digits : Text) → (c == 0x30) ≡ x → are_digits 10 (c ∷ digits) ≡ true → are_integer_digits (c ∷ digits) ≡ false
        → are_digits 8 (c ∷ digits) ≡ true
        → first_reading (numbers_11 negative (c ∷ digits)) ≡ meant_integer (signed negative (digits_value 10 (c ∷ digits))) → ⊥
    by false digits begins decimal other octal e =
        let parts = or_parts (is_whole_part (c ∷ digits)) (is_padded_digit (c ∷ digits)) other in
        absurd (true≢false (sym (and_from (are_digits 10 (c ∷ digits)) _ decimal
        (or_right (is_word (c ∷ digits) (codes "0")) (not (c == 0x30)) (not_from_false (c == 0x30) begins))) ∙ parts.0))
    by true [] begins decimal other octal e = absurd (true≢false (sym (ap (λ c. are_integer_digits (c ∷ [])) (eqb-true c 0x30 begins)) ∙ other))
    by true (d ∷ digits) begins decimal other octal e =
        let parts = or_parts (is_whole_part (c ∷ d ∷ digits)) (is_padded_digit (c ∷ d ∷ digits)) other in
        let all = all_digits 10 (c ∷ d ∷ digits) decimal in
        let unlike : one_behind (c ∷ d ∷ digits) ≡ false = sym (ap (λ x. x && one_behind (c ∷ d ∷ digits)) octal) ∙ parts.1 in
        let less = other_value (c ∷ d ∷ digits) all unlike in
        let same = same_size negative (digits_value 8 (c ∷ d ∷ digits)) (digits_value 10 (c ∷ d ∷ digits))
        (sym (octal_by_11 negative c d digits begins all (all_digits 8 (c ∷ d ∷ digits) octal)) ∙ e) in
        apart (digits_value 8 (c ∷ d ∷ digits)) (digits_value 10 (c ∷ d ∷ digits)) less same
