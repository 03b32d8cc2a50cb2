-- A text that is surely one means a text by both schemas.
use Rattle.yaml_base.proofs.Common.{nat_tests, arith, ℕ, if◌then◌else◌, ⊤, ◌==◌, Option, None, Bool, false, not, true, ◌&&◌, ◌||◌, List, [], ◌∷◌, ◌⊎◌, refl}
use Rattle.yaml_base.proofs.Common.{◌≡◌, eqb-true, true≢false, inl, inr, ap, ◌∙◌, and_cases, and_left, or_parts, not-false, not-true, list_all, list_any, Text}
use Rattle.yaml_base.proofs.Common.{named, Resolved, meant_text, first_reading, words_of_core, words_of_11, is_plus_or_minus, is_decimal, first_meets}
use Rattle.yaml_base.proofs.Common.{past_sign, core_based, resolved_by_core, is_underscore, are_grouped, based_11, past, resolved_by_11}
use Rattle.yaml_base.proofs.Common.{is_reserved, is_symbol, is_based, is_number_letter, in_number, is_numeric}
use Rattle.yaml_base.proofs.{SchemaWords.named_unlike, no_numbers.NumbersHoldDigits.without_digits, no_numbers.NumbersWithin.with_others}
use Rattle.yaml_base.proofs.no_numbers.NoNumbers.{NoNumber, off, past_cons}
use Rattle.yaml_base.proofs.no_numbers.NumbersBegin.{begins_digits, without_begin}
use Rattle.yaml_base.specs.values.SurelyText.{precedes_number, names_base, begins_based, begins_number, SurelyTextIsText}

-- ---- words

-- the words of both schemas are reserved
word_by_11 : (text : Text) → is_reserved text ≡ false → named words_of_11 text ≡ None
word_by_11 text h = named_unlike is_reserved words_of_11 text refl h

word_by_core : (text : Text) → is_reserved text ≡ false → named words_of_core text ≡ None
word_by_core text h = named_unlike is_reserved words_of_core text refl h

-- ---- numbers in a base

-- a sign precedes a number
past_sign_based : (text : Text) → begins_based (past precedes_number text) ≡ begins_based (past precedes_number (past_sign text))
past_sign_based [] = refl
past_sign_based (c ∷ rest) = by (is_plus_or_minus c) refl
  where
    by : (x : Bool) → is_plus_or_minus c ≡ x
        → begins_based (past precedes_number (c ∷ rest)) ≡ begins_based (past precedes_number (if x then rest else c ∷ rest))
    by true e =
        ap begins_based (past_cons precedes_number c rest
        ∙ ap (λ x. if x || is_underscore c then past precedes_number rest else c ∷ rest) e)
    by false e = refl

-- `0` and the letter of a base
unbased : (c d letter : ℕ) (rest : Text) → names_base letter ≡ true → begins_based (past precedes_number (c ∷ d ∷ rest)) ≡ false
    → (c == 0x30 && d == letter) ≡ false
unbased c d letter rest base h = grind (arith, true≢false, eqb-true)

based_by_11 : (negative : Bool) (letter base : ℕ) (text : Text) → names_base letter ≡ true
    → begins_based (past precedes_number text) ≡ false → based_11 negative letter base text ≡ None
based_by_11 negative letter base (c ∷ d ∷ e ∷ rest) among h =
    off _ _ (and_left (c == 0x30 && d == letter) (are_grouped base (e ∷ rest)) (unbased c d letter (e ∷ rest) among h))
based_by_11 negative letter base _ among h = refl

based_by_core : (letter base : ℕ) (text : Text) → names_base letter ≡ true → is_based text ≡ false → core_based letter base text ≡ None
based_by_core letter base text h k = grind (arith, nat_tests, off, and_left, unbased)

-- ---- other numbers

-- a text that begins no number has no sign
without_first : (text : Text) → first_meets begins_number text ≡ false → first_meets begins_digits (past_sign text) ≡ false
without_first text h = grind (arith, nat_tests, or_parts)

-- a text that isn't numeric is no number
number_none : (text : Text) → is_numeric text ≡ false → NoNumber text
number_none text h = by (and_cases (first_meets begins_number text && list_all in_number text) (list_any is_decimal text || not letters) h)
  where
    letters : Bool
    letters = list_any is_number_letter text

    of_two : ((first_meets begins_number text ≡ false) ⊎ (list_all in_number text ≡ false)) → NoNumber text
    of_two (inl e) = without_begin text (without_first text e)
    of_two (inr e) = with_others text e

    by : ((first_meets begins_number text && list_all in_number text) ≡ false) ⊎ ((list_any is_decimal text || not letters) ≡ false) → NoNumber text
    by (inl e) = of_two (and_cases (first_meets begins_number text) (list_all in_number text) e)
    by (inr e) =
        let both = or_parts (list_any is_decimal text) (not letters) e in without_digits text both.0 (not-false letters both.1)

-- ---- both schemas

-- nothing reads anything
abbrev AllNone : List (Option Resolved) → Type 0
AllNone [] = ⊤
AllNone (reading ∷ rest) = (reading ≡ None) × AllNone rest

nothing_read : (readings : List (Option Resolved)) → AllNone readings → first_reading readings ≡ meant_text
nothing_read [] h = refl
nothing_read (reading ∷ rest) h = ap (λ r. first_reading (r ∷ rest)) h.0 ∙ nothing_read rest h.1

text_by_11 : (text : Text) → is_reserved text ≡ false → is_based text ≡ false → NoNumber text → resolved_by_11 text ≡ meant_text
text_by_11 text word based none = grind (arith, nothing_read, word_by_11, based_by_11, past_sign_based)

text_by_core : (text : Text) → is_reserved text ≡ false → is_based text ≡ false → NoNumber text → resolved_by_core text ≡ meant_text
text_by_core text word based none = grind (arith, nothing_read, word_by_core, based_by_core)

-- a text that is surely one means a text by both
pub surely_text : SurelyTextIsText
surely_text text h =
    let prefix : ((is_reserved text || is_symbol text || is_based text) ≡ false) × (is_numeric text ≡ false) =
    or_parts (is_reserved text || is_symbol text || is_based text) (is_numeric text) (not-true _ h) in
    let others : ((is_reserved text || is_symbol text) ≡ false) × (is_based text ≡ false) =
    or_parts (is_reserved text || is_symbol text) (is_based text) prefix.0 in
    let word : is_reserved text ≡ false = (or_parts (is_reserved text) (is_symbol text) others.0).0 in
    let based : is_based text ≡ false = others.1 in
    let none : NoNumber text = number_none text prefix.1 in
    (text_by_11 text word based none, text_by_core text word based none)
