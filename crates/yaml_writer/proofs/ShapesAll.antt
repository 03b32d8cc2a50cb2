-- A text of which both schemas read the same, other than a text, is a word or a number of these shapes.
use Rattle.yaml_writer.proofs.Common.{ℕ, if◌then◌else◌, ◌==◌, option_map, option_or, Option, None, Some, codes, length, Bool, false, not, true, ◌&&◌, ◌||◌}
use Rattle.yaml_writer.proofs.Common.{List, [], ◌∷◌, refl, ◌≡◌, eqb-true, true≢false, ap, sym, ◌∙◌, and_parts, and_from, and_left, and_right, or_from}
use Rattle.yaml_writer.proofs.Common.{not_from_false, list_all, list_any, Text, is_word, is_decimal, first_meets, are_digits, is_whole_part}
use Rattle.yaml_writer.proofs.Common.{digit_unlike, int_tag, float_tag, drop}
use Rattle.yaml_base.proofs.Common.{or_left, or_right, or_parts, slice_split, bytes_eq, bytes_eq-Decides, ℤ, pos, named, Resolved, Decimal}
use Rattle.yaml_base.proofs.Common.{meant_integer, meant_text, first_reading, words_of_core, is_point, is_exponent_letter}
use Rattle.yaml_base.proofs.Common.{past_sign, is_negative, exponent_read, times_power_of_ten, scientific, core_integer}
use Rattle.yaml_base.proofs.Common.{core_based, core_mantissa, core_decimal, resolved_by_core, are_grouped, begins_grouped, octal_11}
use Rattle.yaml_base.proofs.Common.{decimal_11, is_leading, numbers_11, resolved_by_11, is_underscore}
use Rattle.yaml_base.proofs.Common.{is_colon, are_sixtieths, sixties_11, fine_sixties_11, more_points_11, has_more_points, points_11, is_empty, string_tag}
use Rattle.std.{specs.Char.is_digit}
use Rattle.yaml_base.proofs.{NumberCuts.uncut, NumberCuts.no_point, NumberCuts.no_exponent}
use Rattle.yaml_base.proofs.NumbersByCore.{passed, found, given}
use Rattle.yaml_base.proofs.NumbersRead.{float_11_none, based_11_none}
use Rattle.yaml_base.proofs.no_numbers.NoNumbers.{off, filled}
use Rattle.yaml_base.proofs.no_numbers.NumbersBegin.{first_part, groups_begin, split_begins, more_points_11_begins}
use Rattle.yaml_base.specs.{Options.some_if, values.CanonicalTags.canonical_tag}
use Rattle.yaml_writer.proofs.FloatsByBoth.{held, no_float_by_11, some}
use Rattle.yaml_writer.proofs.PaddedDigits.{other_by_11}
use Rattle.yaml_writer.proofs.PlainShapes.{all_digits, integer_digits}
use Rattle.yaml_writer.proofs.Common.{append-nil}
use Rattle.yaml_base.proofs.Common.{signed, digits_value}
use Rattle.yaml_writer.proofs.ShapesRead.{past_sign_digit, no_date, unsigned_by_11, two_in_part, float_none, digits_by_core}
use Rattle.yaml_writer.specs.PlainTags.{is_padded_digit, are_integer_digits, is_hexadecimal, is_plain_integer, is_plain_float, plain_number_tag, plain_tag}
use Rattle.yaml_writer.specs.PlainTags.{PlainTagsAreAll}

-- ---- digits that 1.1 reads as no integer

or_nothing : (x : Bool) → (x || false) ≡ x
or_nothing true = refl
or_nothing false = refl

-- decimal digits have no underscore
grouped_octal : (digits : Text) → list_all is_decimal digits ≡ true → are_grouped 8 digits ≡ list_all (λ c. is_digit c 8) digits
grouped_octal [] h = refl
grouped_octal (c ∷ digits) h =
    let both = and_parts (is_decimal c) (list_all is_decimal digits) h in
    ap (λ x. (is_digit c 8 || x) && are_grouped 8 digits) (digit_unlike c 0x5F refl both.0)
    ∙ ap (λ x. x && are_grouped 8 digits) (or_nothing (is_digit c 8)) ∙ ap (λ x. is_digit c 8 && x) (grouped_octal digits both.1)

no_octal : (negative : Bool) (c : ℕ) (digits : Text) → list_all is_decimal (c ∷ digits) ≡ true → are_digits 8 (c ∷ digits) ≡ false
    → octal_11 negative (c ∷ digits) ≡ None
no_octal negative c [] decimal other = refl
no_octal negative c (d ∷ digits) decimal other = off _ _ (by (c == 0x30) (are_grouped 8 (d ∷ digits)) refl refl)
  where
    by : (x y : Bool) → (c == 0x30) ≡ x → are_grouped 8 (d ∷ digits) ≡ y → (x && y) ≡ false
    by true true e f =
        let later = (and_parts (is_decimal c) (list_all is_decimal (d ∷ digits)) decimal).1 in
        let octal : list_all (λ c. is_digit c 8) (c ∷ d ∷ digits) ≡ true = and_from (is_digit c 8) (list_all (λ c. is_digit c 8) (d ∷ digits))
        (ap (λ c. is_digit c 8) (eqb-true c 0x30 e)) (sym (grouped_octal (d ∷ digits) later) ∙ f) in
        absurd (true≢false (sym (and_from (not (length (c ∷ d ∷ digits) == 0)) _ (not_from_false _ (filled (length (d ∷ digits)))) octal) ∙ other))
    by _ _ e f = refl

no_whole : (negative : Bool) (c : ℕ) (digits : Text) → are_digits 10 (c ∷ digits) ≡ true → is_whole_part (c ∷ digits) ≡ false
    → decimal_11 negative (c ∷ digits) ≡ None
no_whole negative c digits decimal other =
    let parts =
    or_parts (is_word (c ∷ digits) (codes "0")) (not (c == 0x30))
    (sym (ap (λ x. x && (is_word (c ∷ digits) (codes "0") || not (c == 0x30))) decimal) ∙ other) in
    off (is_word (c ∷ digits) (codes "0") || begins_grouped is_leading (c ∷ digits)) _
    (or_from (is_word (c ∷ digits) (codes "0")) _ parts.0
    (and_left (is_decimal c && not (c == 0x30)) (are_grouped 10 (c ∷ digits)) (and_right (is_decimal c) (not (c == 0x30)) parts.1)))

abbrev IsText : Bool → Text → Type 0
IsText negative digits = first_reading (numbers_11 negative digits) ≡ meant_text

digits_text : (negative : Bool) (digits : Text) → are_digits 10 digits ≡ true → is_whole_part digits ≡ false → are_digits 8 digits ≡ false
    → IsText negative digits
digits_text negative [] decimal no_whole_part no_octal_digits = absurd (true≢false (sym decimal))
digits_text negative (c ∷ digits) decimal no_whole_part no_octal_digits =
    passed _ _ (float_11_none negative c digits all) ∙ passed _ _ (based_11_none negative 0x62 2 c digits (second 0x62 refl digits all))
    ∙ passed _ _ (based_11_none negative 0x78 16 c digits (second 0x78 refl digits all)) ∙ passed _ _ (no_octal negative c digits all no_octal_digits)
    ∙ passed _ _ (no_whole negative c digits decimal no_whole_part)
    ∙ passed _ _ (ap (sixties_11 negative) (uncut is_colon (λ c digit. digit_unlike c 0x3A refl digit) (c ∷ digits) all))
    ∙ passed _ _ (ap (fine_sixties_11 negative) (no_point (c ∷ digits) all))
    ∙ passed _ _ (ap more_points_11 (no_exponent (c ∷ digits) all)
    ∙ off _ _ (ap has_more_points (no_point (c ∷ digits) all)))
    ∙ passed _ _ (off _ _ (and_left (is_point c) (list_all is_point (c ∷ digits))
    (digit_unlike c 0x2E refl (and_parts (is_decimal c) (list_all is_decimal digits) all).0)))
  where
    all : list_all is_decimal (c ∷ digits) ≡ true
    all = all_digits 10 (c ∷ digits) decimal

    second : (letter : ℕ) → is_decimal letter ≡ false → (digits : Text) → list_all is_decimal (c ∷ digits) ≡ true
        → first_meets (λ d. d == letter) digits ≡ false
    second letter other [] all = refl
    second letter other (d ∷ digits) all =
        digit_unlike d letter other
        (and_parts (is_decimal d) (list_all is_decimal digits) (and_parts (is_decimal c) (list_all is_decimal (d ∷ digits)) all).1).0

-- ---- `0o` and digits

-- The second of a group of digits is a digit.
grouped_none : (test : ℕ → Bool) (a b : ℕ) (text : Text) → (is_decimal b || is_underscore b) ≡ false → begins_grouped test (a ∷ b ∷ text) ≡ false
grouped_none test a b text other =
    and_right (test a) (are_grouped 10 (a ∷ b ∷ text))
    (and_right (is_decimal a || is_underscore a) (are_grouped 10 (b ∷ text)) (and_left (is_decimal b || is_underscore b) (are_grouped 10 text) other))

groups_none : (test : ℕ → Bool) (a b : ℕ) (text : Text) (groups : List Text) → first_part groups ≡ a ∷ b ∷ text
    → (is_decimal b || is_underscore b) ≡ false → are_sixtieths test groups ≡ false
groups_none test a b text (first ∷ second ∷ rest) is other =
    and_left (begins_grouped test first) _ (ap (begins_grouped test) is ∙ grouped_none test a b text other)
groups_none test a b text _ is other = refl

fine_none : (negative : Bool) (a b : ℕ) (text : Text) (parts : List Text) → is_colon a ≡ false → is_colon b ≡ false
    → first_part parts ≡ a ∷ b ∷ text → (is_decimal b || is_underscore b) ≡ false → fine_sixties_11 negative parts ≡ None
fine_none negative a b text (whole ∷ fraction ∷ []) first second is other =
    off (are_sixtieths is_decimal (slice_split is_colon whole) && are_grouped 10 fraction) _
    (and_left (are_sixtieths is_decimal (slice_split is_colon whole)) (are_grouped 10 fraction)
    (groups_none is_decimal a b (first_part (slice_split is_colon text)) (slice_split is_colon whole)
    (ap (λ t. first_part (slice_split is_colon t)) is ∙ two_in_part is_colon a b text first second) other))
fine_none negative a b text _ first second is other = refl

points_none : (a b : ℕ) (text : Text) (parts : List Text) → first_part parts ≡ a ∷ b ∷ text → (is_decimal b || is_underscore b) ≡ false
    → has_more_points parts ≡ false
points_none a b text (whole ∷ c ∷ d ∷ rest) is other =
    and_left (length whole == 0 || begins_grouped is_decimal whole) _
    (ap (λ t. length t == 0 || begins_grouped is_decimal t) is
    ∙ or_from (length (a ∷ b ∷ text) == 0) (begins_grouped is_decimal (a ∷ b ∷ text)) (filled (length (b ∷ text))) (grouped_none is_decimal a b text other))
points_none a b text _ is other = refl

-- 1.1 reads it as a text
octal_text : (digits : Text) → resolved_by_11 (0x30 ∷ 0x6F ∷ digits) ≡ meant_text
octal_text digits =
    let text = 0x30 ∷ 0x6F ∷ digits in
    let later = first_part (slice_split is_exponent_letter digits) in
    unsigned_by_11 text refl (no_date text (0x30 ∷ []) (0x6F ∷ digits) refl refl refl)
    ∙ passed _ _ (float_none false 0x30 0x6F digits refl refl refl refl refl) ∙ passed _ _ (based_11_none false 0x62 2 0x30 (0x6F ∷ digits) refl)
    ∙ passed _ _ (based_11_none false 0x78 16 0x30 (0x6F ∷ digits) refl) ∙ passed (octal_11 false text) (drop 4 (numbers_11 false text)) refl
    ∙ passed (decimal_11 false text) (drop 5 (numbers_11 false text)) refl
    ∙ passed (sixties_11 false (slice_split is_colon text)) (drop 6 (numbers_11 false text))
    (off _ _ (groups_begin is_leading (slice_split is_colon text) (split_begins is_leading is_colon text refl)))
    ∙ passed (fine_sixties_11 false (slice_split is_point text)) (drop 7 (numbers_11 false text))
    (fine_none false 0x30 0x6F (first_part (slice_split is_point digits)) (slice_split is_point text) refl refl
    (two_in_part is_point 0x30 0x6F digits refl refl) refl)
    ∙ passed (more_points_11 (slice_split is_exponent_letter text)) (drop 8 (numbers_11 false text))
    (more_points_11_begins (slice_split is_exponent_letter text)
    (ap (λ t. has_more_points (slice_split is_point t)) (two_in_part is_exponent_letter 0x30 0x6F digits refl refl)
    ∙ points_none 0x30 0x6F (first_part (slice_split is_point later)) (slice_split is_point (0x30 ∷ 0x6F ∷ later))
    (two_in_part is_point 0x30 0x6F later refl refl) refl))
    ∙ passed (points_11 text) [] refl

-- ---- parts of the texts that the core schema reads

none_is : (meant : Resolved) → None ≡ Some meant → ⊥
none_is meant e = cc

same_held : (a b : Resolved) → Some a ≡ Some b → a ≡ b
same_held a b e = cc

-- a number in a base that the core schema reads
record Based (letter base : ℕ) (text : Text) : Type 0 where
  digits : Text
  text_is : text ≡ 0x30 ∷ letter ∷ digits
  has : are_digits base digits ≡ true

based_parts : (letter base : ℕ) (text : Text) → some (core_based letter base text) ≡ true → Based letter base text
based_parts letter base (c ∷ d ∷ digits) h =
    let both = and_parts (c == 0x30 && d == letter) (are_digits base digits) (held (c == 0x30 && d == letter && are_digits base digits) _ h) in
    let begin = and_parts (c == 0x30) (d == letter) both.0 in
    record {
      digits = digits;
      text_is = ap (λ c. c ∷ d ∷ digits) (eqb-true c 0x30 begin.0) ∙ ap (λ d. 0x30 ∷ d ∷ digits) (eqb-true d letter begin.1);
      has = both.1;
    }
based_parts letter base _ h = absurd (true≢false (sym h))

based_tag : (letter base : ℕ) (text : Text) (meant : Resolved) → core_based letter base text ≡ Some meant → canonical_tag meant ≡ int_tag
based_tag letter base [] meant e = absurd (none_is meant e)
based_tag letter base (c ∷ []) meant e = absurd (none_is meant e)
based_tag letter base (c ∷ d ∷ digits) meant e = by (c == 0x30 && d == letter && are_digits base digits) e
  where
    by : (x : Bool) → some_if x (meant_integer (pos (digits_value base digits))) ≡ Some meant → canonical_tag meant ≡ int_tag
    by true e = ap canonical_tag (sym (same_held _ meant e))
    by false e = absurd (none_is meant e)

times_tag : (decimal : Option Decimal) (exponent : Option ℤ) (meant : Resolved) → times_power_of_ten decimal exponent ≡ Some meant
    → canonical_tag meant ≡ float_tag
times_tag (Some decimal) (Some exponent) meant e = ap canonical_tag (sym (same_held _ meant e))
times_tag _ _ meant e = absurd (none_is meant e)

decimal_tag : (mantissa : Text → Option Decimal) (exponent : Text → Option ℤ) (parts : List Text) (meant : Resolved)
    → scientific mantissa exponent parts ≡ Some meant → canonical_tag meant ≡ float_tag
decimal_tag mantissa exponent (m ∷ []) meant e = times_tag (mantissa m) (Some (pos 0)) meant e
decimal_tag mantissa exponent (m ∷ p ∷ []) meant e = times_tag (mantissa m) (exponent p) meant e
decimal_tag mantissa exponent _ meant e = absurd (none_is meant e)

-- ---- all

integer_meant : (text : Text) (meant : Resolved) → core_integer text ≡ Some meant → canonical_tag meant ≡ int_tag
integer_meant text meant e = by (are_digits 10 (past_sign text)) e
  where
    by : (x : Bool) → some_if x (meant_integer (signed (is_negative text) (digits_value 10 (past_sign text)))) ≡ Some meant → canonical_tag meant ≡ int_tag
    by true e = ap canonical_tag (sym (same_held _ meant e))
    by false e = absurd (none_is meant e)

digits_there : (text : Text) → are_digits 10 (past_sign text) ≡ true → list_any is_decimal text ≡ true
digits_there text h = past_sign_digit text (by (past_sign text) h)
  where
    by : (digits : Text) → are_digits 10 digits ≡ true → list_any is_decimal digits ≡ true
    by [] h = absurd (true≢false (sym h))
    by (c ∷ digits) h = or_left (is_decimal c) _ (and_parts (is_decimal c) (list_all is_decimal digits) (all_digits 10 (c ∷ digits) h)).0

no_digits : (text : Text) → core_integer text ≡ None → are_integer_digits (past_sign text) ≡ false
no_digits text e = by (are_integer_digits (past_sign text)) refl
  where
    by : (x : Bool) → are_integer_digits (past_sign text) ≡ x → are_integer_digits (past_sign text) ≡ false
    by false h = h
    by true h =
        absurd (true≢false (ap some (sym (given (are_digits 10 (past_sign text)) (meant_integer (signed (is_negative text) (digits_value 10 (past_sign text))))
        (integer_digits (past_sign text) h)) ∙ e)))

no_hexadecimal : (text : Text) → core_based 0x78 16 text ≡ None → is_hexadecimal text ≡ false
no_hexadecimal [] e = refl
no_hexadecimal (c ∷ []) e = refl
no_hexadecimal (c ∷ d ∷ digits) e = by (c == 0x30 && d == 0x78 && are_digits 16 digits) e
  where
    by : (x : Bool) → some_if x (meant_integer (pos (digits_value 16 digits))) ≡ None → x ≡ false
    by false e = refl
    by true e = absurd (true≢false (ap some e))

module _ (text tag : Text) (filled_text : is_empty text ≡ false) (other : bytes_eq tag string_tag ≡ false)
    (by_11 : canonical_tag (resolved_by_11 text) ≡ tag) (by_core : canonical_tag (resolved_by_core text) ≡ tag)
    (one_integer : tag ≡ int_tag → resolved_by_11 text ≡ resolved_by_core text) where
  -- The meaning of a word of both schemas has its tag.
  a_word : (meant : Resolved) → named words_of_core text ≡ Some meant → plain_tag text ≡ Some tag
  a_word meant e =
      ap (λ (word : Option Resolved). option_or (option_map canonical_tag word) (plain_number_tag text))
      (ap (λ x. if x then None else named words_of_core text) filled_text ∙ e)
      ∙ ap (λ (t : Text). Some t) (sym (ap canonical_tag (found _ _ meant e)) ∙ by_core)

  -- A text that is no such word has the tag of a number.
  no_word_there : named words_of_core text ≡ None → plain_tag text ≡ plain_number_tag text
  no_word_there e =
      ap (λ (word : Option Resolved). option_or (option_map canonical_tag word) (plain_number_tag text))
      (ap (λ x. if x then None else named words_of_core text) filled_text ∙ e)

  -- 1.1 reads no text there
  no_text : {P : Type 0} → resolved_by_11 text ≡ meant_text → P
  no_text e = absurd (true≢false (sym ((bytes_eq-Decides tag string_tag).1 (sym by_11 ∙ ap canonical_tag e)) ∙ other))

  integer_tag : is_plain_integer text ≡ true → int_tag ≡ tag → plain_number_tag text ≡ Some tag
  integer_tag h same = ap (λ x. option_or (some_if x int_tag) (some_if (is_plain_float text) float_tag)) h ∙ ap (λ (t : Text). Some t) same

  of_integer : are_digits 10 (past_sign text) ≡ true → int_tag ≡ tag → plain_number_tag text ≡ Some tag
  of_integer decimal same = by (are_integer_digits (past_sign text)) (are_digits 8 (past_sign text)) refl refl
    where
      unsigned : resolved_by_11 text ≡ first_reading (numbers_11 (is_negative text) (past_sign text))
      unsigned =
          unsigned_by_11 text (digits_there text decimal)
          (no_date text (past_sign text) [] (sym (append-nil (past_sign text))) (all_digits 10 (past_sign text) decimal) refl)

      by : (x y : Bool) → are_integer_digits (past_sign text) ≡ x → are_digits 8 (past_sign text) ≡ y → plain_number_tag text ≡ Some tag
      by true y e f = integer_tag (or_left (are_integer_digits (past_sign text)) (is_hexadecimal text) e) same
      by false true e f =
          absurd (other_by_11 (is_negative text) (past_sign text) decimal e f
          (sym unsigned ∙ one_integer (sym same) ∙ digits_by_core text (digits_there text decimal) decimal))
      by false false e f =
          no_text (unsigned
          ∙ digits_text (is_negative text) (past_sign text) decimal
          (or_parts (is_whole_part (past_sign text)) (is_padded_digit (past_sign text)) e).0 f)

  of_octal : Based 0x6F 8 text → plain_number_tag text ≡ Some tag
  of_octal parts = no_text (ap resolved_by_11 parts.text_is ∙ octal_text parts.digits)

  of_hexadecimal : Based 0x78 16 text → int_tag ≡ tag → plain_number_tag text ≡ Some tag
  of_hexadecimal parts same =
      integer_tag (or_right (are_integer_digits (past_sign text)) (is_hexadecimal text) (ap is_hexadecimal parts.text_is ∙ parts.has)) same

  of_decimal : named words_of_core text ≡ None → is_plain_integer text ≡ false → some (core_decimal text) ≡ true → float_tag ≡ tag
      → plain_number_tag text ≡ Some tag
  of_decimal word no_integer decimal same = by (is_plain_float text) refl
    where
      by : (x : Bool) → is_plain_float text ≡ x → plain_number_tag text ≡ Some tag
      by true e =
          ap (λ x. option_or (some_if x int_tag) (some_if (is_plain_float text) float_tag)) no_integer
          ∙ ap (λ x. some_if x float_tag) e ∙ ap (λ (t : Text). Some t) same
      by false e =
          absurd (true≢false (sym ((bytes_eq-Decides (canonical_tag (resolved_by_11 text)) float_tag).1 (by_11 ∙ sym same))
          ∙ no_float_by_11 text word decimal e))

  -- readings of the core schema, one after another
  by_readings : (whole octal hexadecimal decimal : Option Resolved) → named words_of_core text ≡ None → core_integer text ≡ whole
      → core_based 0x6F 8 text ≡ octal → core_based 0x78 16 text ≡ hexadecimal → core_decimal text ≡ decimal
      → canonical_tag (first_reading (whole ∷ octal ∷ hexadecimal ∷ decimal ∷ [])) ≡ tag → plain_number_tag text ≡ Some tag
  by_readings (Some meant) octal hexadecimal decimal word a b c d is =
      of_integer (held (are_digits 10 (past_sign text)) _ (ap some a)) (sym (integer_meant text meant a) ∙ is)
  by_readings None (Some meant) hexadecimal decimal word a b c d is = of_octal (based_parts 0x6F 8 text (ap some b))
  by_readings None None (Some meant) decimal word a b c d is =
      of_hexadecimal (based_parts 0x78 16 text (ap some c)) (sym (based_tag 0x78 16 text meant c) ∙ is)
  by_readings None None None (Some meant) word a b c d is =
      of_decimal word
      (or_from (are_integer_digits (past_sign text)) (is_hexadecimal text) (no_digits text a) (no_hexadecimal text c)) (ap some d)
      (sym (decimal_tag (λ mantissa. core_mantissa (is_negative text) (slice_split is_point mantissa)) exponent_read
      (slice_split is_exponent_letter (past_sign text)) meant d) ∙ is)
  by_readings None None None None word a b c d is = absurd (true≢false (sym ((bytes_eq-Decides tag string_tag).1 (sym is)) ∙ other))

  tag_found : (word : Option Resolved) → named words_of_core text ≡ word → plain_tag text ≡ Some tag
  tag_found (Some meant) e = a_word meant e
  tag_found None e =
      no_word_there e
      ∙ by_readings (core_integer text) (core_based 0x6F 8 text) (core_based 0x78 16 text) (core_decimal text) e refl refl refl refl
      (sym (ap canonical_tag (passed _ _ e)) ∙ by_core)

pub plain_tags_all : PlainTagsAreAll
plain_tags_all text tag filled_text other by_11 by_core one_integer =
    tag_found text tag filled_text other by_11 by_core one_integer (named words_of_core text) refl
