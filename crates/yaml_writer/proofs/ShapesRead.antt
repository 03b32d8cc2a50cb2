-- Both schemas read numbers of these shapes as integers and floats.
use Rattle.yaml_writer.proofs.Common.{ℕ, if◌then◌else◌, ◌==◌, Option, None, Some, length, Bool, false, not, true, ◌&&◌, ◌||◌, List, []}
use Rattle.yaml_writer.proofs.Common.{◌++◌, ◌∷◌, refl, ◌≡◌, eqb-true, true≢false, ap, sym, ◌∙◌, and_parts, and_left, and_right}
use Rattle.yaml_writer.proofs.Common.{list_all-append, list_all, list_any, Text, is_decimal, first_meets, are_digits}
use Rattle.yaml_writer.proofs.Common.{int_tag, float_tag, append-nil, option_or, drop}
use Rattle.yaml_base.specs.Options.{some_if}
use Rattle.yaml_base.proofs.Common.{or_left, or_right, slice_split, onto_first, pos, named, digits_value, Resolved, Decimal}
use Rattle.yaml_base.proofs.Common.{meant_integer, meant_decimal, first_reading, words_of_core, words_of_11, is_point, is_exponent_letter, is_plus_or_minus}
use Rattle.yaml_base.proofs.Common.{past_sign, is_negative, signed, exponent_read, times_power_of_ten, scientific, core_integer, core_based}
use Rattle.yaml_base.proofs.Common.{core_mantissa, core_decimal, resolved_by_core, ungrouped, are_grouped, begins_grouped, based_11, mantissa_11}
use Rattle.yaml_base.proofs.Common.{exponent_11, float_11, in_date, timestamp_11, numbers_11, resolved_by_11, is_underscore}
use Rattle.std.specs.Char.{is_digit}
use Rattle.std.proofs.lemmas.List.Splits.{slice_split-cons_no}
use Rattle.yaml_base.proofs.{AllPass.all_pass, SchemaWords.named_unlike, NumberCuts.no_timestamp}
use Rattle.yaml_base.proofs.NumbersByCore.{passed, found, given, no_letter, pointed_read}
use Rattle.yaml_base.proofs.NumbersRead.{based_11_none, mantissa_11_read}
use Rattle.yaml_base.proofs.no_numbers.NoNumbers.{off, filled}
use Rattle.yaml_base.proofs.no_numbers.NumbersBegin.{first_part, scientific_begins}
use Rattle.yaml_base.specs.{values.CanonicalTags.canonical_tag, values.SchemaOf11.integer_of_digits, values.Resolved.meant_by_nobody}
use Rattle.yaml_writer.proofs.PaddedDigits.{integer_by_11}
use Rattle.yaml_writer.proofs.PlainShapes.{Shaped, integer, based, float, Begins, by_digit, by_point, Pointed, shaped_begins, pointed_parts}
use Rattle.yaml_writer.proofs.PlainShapes.{hexadecimal_parts, integer_digits, all_digits}
use Rattle.yaml_writer.specs.PlainTags.{are_integer_digits, is_hexadecimal, is_pointed, is_signed, is_float_cut, is_plain_float}
use Rattle.yaml_writer.specs.PlainTags.{plain_number_tag}

-- ---- no words, and no timestamps

pub past_sign_digit : (text : Text) → list_any is_decimal (past_sign text) ≡ true → list_any is_decimal text ≡ true
past_sign_digit [] h = h
past_sign_digit (c ∷ rest) h = by (is_plus_or_minus c) h
  where
    by : (x : Bool) → list_any is_decimal (if x then rest else c ∷ rest) ≡ true → list_any is_decimal (c ∷ rest) ≡ true
    by true later = or_right (is_decimal c) _ later
    by false all = all

begins_digit : (text : Text) → Begins text → list_any is_decimal text ≡ true
begins_digit text (by_digit c rest is digit) = past_sign_digit text (ap (list_any is_decimal) is ∙ or_left (is_decimal c) _ digit)
begins_digit text (by_point c rest is digit) = past_sign_digit text (ap (list_any is_decimal) is ∙ or_left (is_decimal c) _ digit)

-- a text with a digit is no word
pub no_word_of : (table : List (Text × Resolved)) (text : Text) → list_all (λ entry. not (list_any is_decimal entry.0)) table ≡ true
    → list_any is_decimal text ≡ true → named table text ≡ None
no_word_of table text all digit = named_unlike (λ text. not (list_any is_decimal text)) table text all (ap not digit)

-- Digits after a sign or none, and then a character that is in no date.
pub no_date : (text digits rest : Text) → past_sign text ≡ digits ++ rest → list_all is_decimal digits ≡ true → first_meets in_date rest ≡ false
    → timestamp_11 text ≡ None
no_date [] digits rest is h other = refl
no_date (s ∷ text) digits rest is h other = by (s == 0x2B) (s == 0x2D) refl refl is
  where
    by : (plus hyphen : Bool) → (s == 0x2B) ≡ plus → (s == 0x2D) ≡ hyphen → (if plus || hyphen then text else s ∷ text) ≡ digits ++ rest
        → timestamp_11 (s ∷ text) ≡ None
    by true hyphen e f is = ap (λ c. timestamp_11 (c ∷ text)) (eqb-true s 0x2B e) ∙ no_timestamp false [] (0x2B ∷ text) refl refl
    by false true e f is =
        ap (λ c. timestamp_11 (c ∷ text)) (eqb-true s 0x2D f) ∙ ap (λ t. timestamp_11 (0x2D ∷ t)) is ∙ no_timestamp true digits rest h other
    by false false e f is = ap timestamp_11 is ∙ no_timestamp false digits rest h other

pub unsigned_by_11 : (text : Text) → list_any is_decimal text ≡ true → timestamp_11 text ≡ None
    → resolved_by_11 text ≡ first_reading (numbers_11 (is_negative text) (past_sign text))
unsigned_by_11 text digit date = passed _ _ (no_word_of words_of_11 text refl digit) ∙ passed _ _ date

-- ---- hexadecimal numbers

-- a text's first part begins as the text
pub onto_first_part : (c : ℕ) (parts : List Text) → first_part (onto_first c parts) ≡ c ∷ first_part parts
onto_first_part c [] = refl
onto_first_part c (part ∷ parts) = refl

pub two_in_part : (sign : ℕ → Bool) (a b : ℕ) (text : Text) → sign a ≡ false → sign b ≡ false
    → first_part (slice_split sign (a ∷ b ∷ text)) ≡ a ∷ b ∷ first_part (slice_split sign text)
two_in_part sign a b text first second =
    ap first_part (slice_split-cons_no sign a (b ∷ text) first) ∙ onto_first_part a (slice_split sign (b ∷ text))
    ∙ ap (λ t. a ∷ first_part t) (slice_split-cons_no sign b text second) ∙ ap (λ t. a ∷ t) (onto_first_part b (slice_split sign text))

-- The second character of a mantissa is a digit.
pub mantissa_none : (negative : Bool) (a b : ℕ) (text : Text) (parts : List Text) → first_part parts ≡ a ∷ b ∷ text
    → (is_decimal b || is_underscore b) ≡ false → mantissa_11 negative parts ≡ None
mantissa_none negative a b text ([] ∷ rest) is other = cc
mantissa_none negative a b text ((c ∷ whole) ∷ fraction ∷ []) is other =
    off (begins_grouped is_decimal (c ∷ whole) && are_grouped 10 fraction) _
    (and_left (begins_grouped is_decimal (c ∷ whole)) (are_grouped 10 fraction)
    (ap (begins_grouped is_decimal) is
    ∙ and_right (first_meets is_decimal (a ∷ b ∷ text)) (are_grouped 10 (a ∷ b ∷ text))
    (and_right (is_decimal a || is_underscore a) (are_grouped 10 (b ∷ text)) (and_left (is_decimal b || is_underscore b) (are_grouped 10 text) other))))
mantissa_none negative a b text _ is other = refl

-- so a text with such a character is no float
pub float_none : (negative : Bool) (a b : ℕ) (text : Text) → is_exponent_letter a ≡ false → is_exponent_letter b ≡ false → is_point a ≡ false
    → is_point b ≡ false → (is_decimal b || is_underscore b) ≡ false → float_11 negative (a ∷ b ∷ text) ≡ None
float_none negative a b text mark_a mark_b point_a point_b other =
    let later = first_part (slice_split is_exponent_letter text) in
    let first = two_in_part is_exponent_letter a b text mark_a mark_b in
    scientific_begins _ _ (slice_split is_exponent_letter (a ∷ b ∷ text))
    (ap (λ t. mantissa_11 negative (slice_split is_point t)) first
    ∙ mantissa_none negative a b _ (slice_split is_point (a ∷ b ∷ later)) (two_in_part is_point a b later point_a point_b) other)

hexadecimal_ungrouped : (digits : Text) → list_all (λ c. is_digit c 16) digits ≡ true → ungrouped digits ≡ digits
hexadecimal_ungrouped [] h = refl
hexadecimal_ungrouped (c ∷ digits) h =
    let both = and_parts (is_digit c 16) (list_all (λ c. is_digit c 16) digits) h in
    ap (λ x. if not x then c ∷ ungrouped digits else ungrouped digits) (other (c == 0x5F) refl both.0)
    ∙ ap (λ text. c ∷ text) (hexadecimal_ungrouped digits both.1)
  where
    other : (x : Bool) → (c == 0x5F) ≡ x → is_digit c 16 ≡ true → (c == 0x5F) ≡ false
    other false e digit = e
    other true e digit = absurd (true≢false (sym digit ∙ ap (λ c. is_digit c 16) (eqb-true c 0x5F e)))

hexadecimal_meant : (digits : Text) → are_digits 16 digits ≡ true
    → first_reading (numbers_11 false (0x30 ∷ 0x78 ∷ digits)) ≡ meant_integer (pos (digits_value 16 digits))
hexadecimal_meant [] h = absurd (true≢false (sym h))
hexadecimal_meant (d ∷ digits) h =
    let all = all_digits 16 (d ∷ digits) h in
    let text = 0x30 ∷ 0x78 ∷ d ∷ digits in
    let meant = integer_of_digits false 16 (ungrouped (d ∷ digits)) in
    let grouped = all_pass (λ c. is_digit c 16) (λ c. is_digit c 16 || is_underscore c) (λ c h. or_left (is_digit c 16) _ h) (d ∷ digits) all in
    let base_read = given (are_grouped 16 (d ∷ digits)) meant grouped in
    let others = drop 3 (numbers_11 false text) in
    let read =
    passed (float_11 false text) (based_11 false 0x62 2 text ∷ based_11 false 0x78 16 text ∷ others)
    (float_none false 0x30 0x78 (d ∷ digits) refl refl refl refl refl)
    ∙ passed (based_11 false 0x62 2 text) (based_11 false 0x78 16 text ∷ others) (based_11_none false 0x62 2 0x30 (0x78 ∷ d ∷ digits) refl)
    ∙ found (based_11 false 0x78 16 text) others meant base_read in
    read ∙ ap (integer_of_digits false 16) (hexadecimal_ungrouped (d ∷ digits) all)
    ∙ ap (λ x. if x then meant_by_nobody else meant_integer (signed false (digits_value 16 (d ∷ digits)))) (filled (length digits))

-- ---- floats

-- Both read digits with a point as the same decimal.
mantissa_same : (negative : Bool) (parts : List Text) → is_pointed parts ≡ true → mantissa_11 negative parts ≡ core_mantissa negative parts
mantissa_same negative ([] ∷ fraction ∷ []) h = refl
mantissa_same negative ((c ∷ whole) ∷ fraction ∷ []) h =
    let both = and_parts (list_all is_decimal (c ∷ whole)) (list_all is_decimal fraction)
    (sym (list_all-append is_decimal (c ∷ whole) fraction) ∙ all_digits 10 ((c ∷ whole) ++ fraction) h) in
    mantissa_11_read negative c whole fraction both.0 both.1 ∙ sym (pointed_read negative c whole fraction both.0 both.1)
mantissa_same negative _ h = absurd (true≢false (sym h))

exponent_same : (text : Text) → is_signed text ≡ true → exponent_11 text ≡ exponent_read text
exponent_same text h = ap (λ x. if x then exponent_read text else None) (and_parts (first_meets is_plus_or_minus text) (are_digits 10 (past_sign text)) h).0

scientific_same : (negative : Bool) (parts : List Text) → is_float_cut parts ≡ true
    → scientific (λ mantissa. mantissa_11 negative (slice_split is_point mantissa)) exponent_11 parts
    ≡ scientific (λ mantissa. core_mantissa negative (slice_split is_point mantissa)) exponent_read parts
scientific_same negative (m ∷ []) h = ap (λ o. times_power_of_ten o (Some (pos 0))) (mantissa_same negative (slice_split is_point m) h)
scientific_same negative (m ∷ e ∷ []) h =
    let both = and_parts (is_pointed (slice_split is_point m)) (is_signed e) h in
    ap (λ o. times_power_of_ten o (exponent_11 e)) (mantissa_same negative (slice_split is_point m) both.0)
    ∙ ap (times_power_of_ten (core_mantissa negative (slice_split is_point m))) (exponent_same e both.1)
scientific_same negative _ h = absurd (true≢false (sym h))

-- They read some decimal.
abbrev GivesDecimal : Option Resolved → Type 0
GivesDecimal reading = (decimal : Decimal) × (reading ≡ Some (meant_decimal decimal))

core_mantissa_given : (negative : Bool) (parts : List Text) → is_pointed parts ≡ true
    → (decimal : Decimal) × (core_mantissa negative parts ≡ Some decimal)
core_mantissa_given negative (whole ∷ fraction ∷ []) h = (_, given (are_digits 10 (whole ++ fraction)) _ h)
core_mantissa_given negative _ h = absurd (true≢false (sym h))

scientific_given : (negative : Bool) (parts : List Text) → is_float_cut parts ≡ true
    → GivesDecimal (scientific (λ mantissa. core_mantissa negative (slice_split is_point mantissa)) exponent_read parts)
scientific_given negative (m ∷ []) h =
    let first = core_mantissa_given negative (slice_split is_point m) h in (_, ap (λ o. times_power_of_ten o (Some (pos 0))) first.1)
scientific_given negative (m ∷ e ∷ []) h =
    let both = and_parts (is_pointed (slice_split is_point m)) (is_signed e) h in
    let first = core_mantissa_given negative (slice_split is_point m) both.0 in (
      _,
      ap (λ o. times_power_of_ten o (exponent_read e)) first.1
          ∙ ap (times_power_of_ten (Some first.0))
          (given (are_digits 10 (past_sign e)) _ (and_parts (first_meets is_plus_or_minus e) (are_digits 10 (past_sign e)) both.1).1),
    )
scientific_given negative _ h = absurd (true≢false (sym h))

float_same : (text : Text) → is_plain_float text ≡ true → float_11 (is_negative text) (past_sign text) ≡ core_decimal text
float_same text h = scientific_same (is_negative text) (slice_split is_exponent_letter (past_sign text)) h

core_decimal_given : (text : Text) → is_plain_float text ≡ true → GivesDecimal (core_decimal text)
core_decimal_given text h = scientific_given (is_negative text) (slice_split is_exponent_letter (past_sign text)) h

-- ---- the types that the core schema tries before floats

-- `0` and a letter
abbrev pub begins_based_by : ℕ → Text → Bool
begins_based_by letter [] = false
begins_based_by letter (c ∷ rest) = c == 0x30 && first_meets (λ d. d == letter) rest

sign_no_zero : (c : ℕ) → is_plus_or_minus c ≡ true → (c == 0x30) ≡ false
sign_no_zero c h = by (c == 0x30) refl
  where
    by : (x : Bool) → (c == 0x30) ≡ x → (c == 0x30) ≡ false
    by false e = e
    by true e = absurd (true≢false (sym h ∙ ap is_plus_or_minus (eqb-true c 0x30 e)))

pub core_based_past : (letter base : ℕ) (text : Text) → begins_based_by letter (past_sign text) ≡ false → core_based letter base text ≡ None
core_based_past letter base [] h = refl
core_based_past letter base (s ∷ []) h = refl
core_based_past letter base (s ∷ d ∷ text) h = by (is_plus_or_minus s) refl h
  where
    by : (x : Bool) → is_plus_or_minus s ≡ x → begins_based_by letter (if x then d ∷ text else s ∷ d ∷ text) ≡ false
        → core_based letter base (s ∷ d ∷ text) ≡ None
    by true e h = off _ _ (and_left (s == 0x30 && d == letter) (are_digits base text) (and_left (s == 0x30) (d == letter) (sign_no_zero s e)))
    by false e h = off _ _ (and_left (s == 0x30 && d == letter) (are_digits base text) h)

pointed_not_based : (letter : ℕ) (whole more : Text) → is_decimal letter ≡ false → (0x2E == letter) ≡ false → list_all is_decimal whole ≡ true
    → begins_based_by letter (whole ++ (0x2E ∷ more)) ≡ false
pointed_not_based letter [] more other point h = refl
pointed_not_based letter (c ∷ whole) more other point h =
    and_right (c == 0x30) _ (no_letter letter whole (0x2E ∷ more) other (and_parts (is_decimal c) (list_all is_decimal whole) h).1 point)

pointed_no_digits : (whole more : Text) → are_digits 10 (whole ++ (0x2E ∷ more)) ≡ false
pointed_no_digits whole more =
    and_right (not (length (whole ++ (0x2E ∷ more)) == 0)) _
    (list_all-append is_decimal whole (0x2E ∷ more) ∙ and_right (list_all is_decimal whole) false refl)

-- ---- both schemas

-- both read this of a text
abbrev BothRead : Text → Resolved → Type 0
BothRead text meant = (resolved_by_11 text ≡ meant) × (resolved_by_core text ≡ meant)

-- both read the same of a text, which has this tag
abbrev pub BothGive : Text → Text → Type 0
BothGive text tag = (resolved_by_11 text ≡ resolved_by_core text) × (canonical_tag (resolved_by_core text) ≡ tag)

given_by_both : (text : Text) (meant : Resolved) → BothRead text meant → BothGive text (canonical_tag meant)
given_by_both text meant read = (read.0 ∙ sym read.1, ap canonical_tag read.1)

-- the integer that the core schema reads of digits
abbrev pub decimal_meant : Text → Resolved
decimal_meant text = meant_integer (signed (is_negative text) (digits_value 10 (past_sign text)))

pub digits_by_core : (text : Text) → list_any is_decimal text ≡ true → are_digits 10 (past_sign text) ≡ true → resolved_by_core text ≡ decimal_meant text
digits_by_core text digit decimal = passed _ _ (no_word_of words_of_core text refl digit) ∙ found _ _ _ (given (are_digits 10 (past_sign text)) _ decimal)

integer_read : (text : Text) → are_integer_digits (past_sign text) ≡ true → BothRead text (decimal_meant text)
integer_read text h =
    let decimal = integer_digits (past_sign text) h in
    let digit = begins_digit text (shaped_begins text (integer h)) in
    let date = no_date text (past_sign text) [] (sym (append-nil (past_sign text))) (all_digits 10 (past_sign text) decimal) refl in
    (unsigned_by_11 text digit date ∙ integer_by_11 (is_negative text) (past_sign text) decimal h, digits_by_core text digit decimal)

hexadecimal_read : (digits : Text) → are_digits 16 digits ≡ true → BothRead (0x30 ∷ 0x78 ∷ digits) (meant_integer (pos (digits_value 16 digits)))
hexadecimal_read digits h = (
  unsigned_by_11 text refl (no_date text (0x30 ∷ []) (0x78 ∷ digits) refl refl refl) ∙ hexadecimal_meant digits h,
  passed (named words_of_core text) (core_integer text ∷ core_based 0x6F 8 text ∷ based_first) (no_word_of words_of_core text refl refl)
      ∙ passed (core_integer text) (core_based 0x6F 8 text ∷ based_first)
      (off (are_digits 10 text) (Some (meant_integer (signed false (digits_value 10 text))))
      (and_right (not (length text == 0)) (list_all is_decimal text) refl))
      ∙ passed (core_based 0x6F 8 text) based_first refl
      ∙ found (core_based 0x78 16 text) (core_decimal text ∷ []) meant (given (are_digits 16 digits) meant h),
)
  where
    text : Text
    text = 0x30 ∷ 0x78 ∷ digits

    based_first : List (Option Resolved)
    based_first = core_based 0x78 16 text ∷ core_decimal text ∷ []

    meant : Resolved
    meant = meant_integer (pos (digits_value 16 digits))

float_by_both : (text : Text) → is_plain_float text ≡ true → BothGive text float_tag
float_by_both text h =
    let read = core_decimal_given text h in
    let no_digits = ap (are_digits 10) parts.text_is ∙ pointed_no_digits parts.whole (parts.fraction ++ parts.rest) in
    let digit = begins_digit text (shaped_begins text (float h)) in
    let date = no_date text parts.whole (0x2E ∷ (parts.fraction ++ parts.rest)) parts.text_is whole refl in
    given_by_both text (meant_decimal read.0) (
      unsigned_by_11 text digit date ∙ found _ _ _ (float_same text h ∙ read.1),
      passed _ _ (no_word_of words_of_core text refl digit)
          ∙ passed _ _ (off (are_digits 10 (past_sign text)) _ no_digits)
          ∙ passed _ _ (core_based_past 0x6F 8 text (unbased 0x6F refl refl)) ∙ passed _ _ (core_based_past 0x78 16 text (unbased 0x78 refl refl))
          ∙ found _ _ _ read.1,
    )
  where
    parts : Pointed (past_sign text)
    parts = pointed_parts (past_sign text) h

    whole : list_all is_decimal parts.whole ≡ true
    whole =
        (and_parts (list_all is_decimal parts.whole) (list_all is_decimal parts.fraction)
        (sym (list_all-append is_decimal parts.whole parts.fraction) ∙ all_digits 10 (parts.whole ++ parts.fraction) parts.digits)).0

    unbased : (letter : ℕ) → is_decimal letter ≡ false → (0x2E == letter) ≡ false → begins_based_by letter (past_sign text) ≡ false
    unbased letter other point =
        ap (begins_based_by letter) parts.text_is ∙ pointed_not_based letter parts.whole (parts.fraction ++ parts.rest) other point whole

-- So they read a value with the tag of a number.
pub numbers_by_both : (text tag : Text) → plain_number_tag text ≡ Some tag → Shaped text × BothGive text tag
numbers_by_both text tag e = by (are_integer_digits (past_sign text)) (is_hexadecimal text) (is_plain_float text) refl refl refl e
  where
    same : (found : Text) → BothGive text found → Some found ≡ Some tag → BothGive text tag
    same found both e = let is : found ≡ tag = cc in (both.0, both.1 ∙ is)

    none : None ≡ Some tag → ⊥
    none e = cc

    by : (x y z : Bool) → are_integer_digits (past_sign text) ≡ x → is_hexadecimal text ≡ y → is_plain_float text ≡ z
        → option_or (some_if (x || y) int_tag) (some_if z float_tag) ≡ Some tag → Shaped text × BothGive text tag
    by true y z h g f e = (integer h, same int_tag (given_by_both text (decimal_meant text) (integer_read text h)) e)
    by false true z h g f e =
        let parts = hexadecimal_parts text g in
        let meant : Resolved = meant_integer (pos (digits_value 16 parts.digits)) in
        let both = hexadecimal_read parts.digits parts.hexadecimal in
        (based g, same int_tag (given_by_both text meant (ap resolved_by_11 parts.text_is ∙ both.0, ap resolved_by_core parts.text_is ∙ both.1)) e)
    by false false true h g f e = (float f, same float_tag (float_by_both text f) e)
    by false false false h g f e = absurd (none e)
