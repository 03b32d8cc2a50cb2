-- Dates are read as themselves, and are written plain.
use Rattle.yaml_writer.proofs.Common.{ℕ, ◌<◌, ◌==◌, Option, Some, codes, length, Bool, false, not, true, ◌&&◌, ◌||◌, List, [], ◌++◌, ◌∷◌, refl, ◌≡◌}
use Rattle.yaml_writer.proofs.Common.{eqb-true, ap, ap₂, ◌∙◌, arith, and_parts, and_from, list_all-append, take_while-cons, list_all, take_while}
use Rattle.yaml_writer.proofs.Common.{Text, is_decimal, first_meets, digit_unlike, nat_lt, is_break}
use Rattle.yaml_base.proofs.Common.{agree_below_at, nat_tests, slice_split, past, is_hyphen, in_date, is_date, is_time_after_date, meant_timestamp}
use Rattle.yaml_base.proofs.Common.{Resolved, first_reading, resolved_by_11, numbers_11, past_sign, is_negative}
use Rattle.std.proofs.lemmas.List.{Splits.slice_split_at, Sums.AllPass-from_list_all}
use Rattle.std.specs.{List.All, Str.Parse.digits_value}
use Rattle.std.specs.Prelude.{if◌then◌else◌, nat_le, ◌+◌, ◌/◌, ◌%◌}
use Rattle.yaml_base.proofs.NumberCuts.{no_word_of_11, uncut}
use Rattle.yaml_base.proofs.no_numbers.NoNumbers.{past_cons}
use Rattle.yaml_base.specs.values.Resolved.{counted_digits, some_if}
use Rattle.yaml_writer.proofs.PlainNumbers.{begins_as_plain, digits_pass, is_harmless, stands_plain}
use Rattle.yaml_writer.specs.Dates.{CalendarDate, calendar_date, is_calendar_date, days_in, four_digits, two_digits, date_text, date_of_parts, DatesAreRead}
use Rattle.yaml_writer.specs.Dates.{WrittenDatesArePlain}

-- ---- digits

-- so many digits are a number
abbrev pub says : ℕ → Text → ℕ → Bool
says count digits number = counted_digits count count digits && (digits_value 10 digits == number)

pub two_say : (number : ℕ) → number < 100 → says 2 (two_digits number) number ≡ true
two_say number small = agree_below_at (λ n. says 2 (two_digits n) n) (λ _. true) 100 number refl small

four_say : (number : ℕ) → number < 10000 → says 4 (four_digits number) number ≡ true
four_say number small = agree_below_at (λ n. says 4 (four_digits n) n) (λ _. true) 10000 number refl small

-- The value of these digits.
pub record Says (count : ℕ) (digits : Text) (number : ℕ) : Type 0 where
  pub counted : counted_digits count count digits ≡ true
  pub decimal : list_all is_decimal digits ≡ true
  pub value : digits_value 10 digits ≡ number

pub says_so : (count : ℕ) (digits : Text) (number : ℕ) → says count digits number ≡ true → Says count digits number
says_so count digits number h =
    let both = and_parts (counted_digits count count digits) (digits_value 10 digits == number) h in
    record { counted = both.0; decimal = (and_parts _ (list_all is_decimal digits) both.0).1; value = eqb-true _ _ both.1 }

-- the parts of a date
pub record DateSays (date : CalendarDate) : Type 0 where
  pub year : Says 4 (four_digits date.year) date.year
  pub month : Says 2 (two_digits date.month) date.month
  pub day : Says 2 (two_digits date.day) date.day

few_days : (year month : ℕ) → days_in year month < 100
few_days year month = grind (arith, nat_tests)

pub date_says : (date : CalendarDate) → is_calendar_date date ≡ true → DateSays date
date_says date h =
    let parts = and_parts (nat_le 1 date.year && nat_le date.year 9999)
    ((nat_le 1 date.month && nat_le date.month 12) && (nat_le 1 date.day && nat_le date.day (days_in date.year date.month))) h in
    let year = (and_parts (nat_le 1 date.year) (nat_le date.year 9999) parts.0).1 in
    let rest = and_parts (nat_le 1 date.month && nat_le date.month 12) (nat_le 1 date.day && nat_le date.day (days_in date.year date.month)) parts.1 in
    let month = (and_parts (nat_le 1 date.month) (nat_le date.month 12) rest.0).1 in
    let day = (and_parts (nat_le 1 date.day) (nat_le date.day (days_in date.year date.month)) rest.1).1 in
    let few = few_days date.year date.month in
    record {
      year = says_so 4 (four_digits date.year) date.year (four_say date.year (grind (arith, nat_tests, year)));
      month = says_so 2 (two_digits date.month) date.month (two_say date.month (grind (arith, nat_tests, month)));
      day = says_so 2 (two_digits date.day) date.day (two_say date.day (grind (arith, nat_tests, day, few)));
    }

-- ---- characters

-- If all digits and the hyphen pass a test, so do all characters of such a text.
pub all_pass : (test : ℕ → Bool) → ((c : ℕ) → is_decimal c ≡ true → test c ≡ true) → (digits : Text) → list_all is_decimal digits ≡ true
    → list_all test digits ≡ true
all_pass test passes [] h = refl
all_pass test passes (c ∷ digits) h =
    let both = and_parts (is_decimal c) (list_all is_decimal digits) h in
    and_from (test c) (list_all test digits) (passes c both.0) (all_pass test passes digits both.1)

pub date_passes : (test : ℕ → Bool) → ((c : ℕ) → is_decimal c ≡ true → test c ≡ true) → test 0x2D ≡ true → (date : CalendarDate) → DateSays date
    → list_all test (date_text date) ≡ true
date_passes test passes hyphen date parts =
    let year = four_digits date.year in
    let month = two_digits date.month in
    let day = two_digits date.day in
    list_all-append test year (0x2D ∷ (month ++ 0x2D ∷ day))
    ∙ ap₂ (λ a b. a && b) (all_pass test passes year parts.year.decimal)
    (ap₂ (λ a b. a && b) hyphen (list_all-append test month (0x2D ∷ day)
    ∙ ap₂ (λ a b. a && b) (all_pass test passes month parts.month.decimal) (ap₂ (λ a b. a && b) hyphen (all_pass test passes day parts.day.decimal))))

-- the characters of a date's bytes are these bytes
pub digit_ascii : (c : ℕ) → is_decimal c ≡ true → (nat_lt c 128 && not (is_break c)) ≡ true
digit_ascii c digit = digits_pass (λ c. nat_lt c 128 && not (is_break c)) refl c digit

-- ---- the schema

digit_in_date : (c : ℕ) → is_decimal c ≡ true → in_date c ≡ true
digit_in_date c digit = ap (λ x. x || is_hyphen c) digit

digit_no_hyphen : (c : ℕ) → is_decimal c ≡ true → is_hyphen c ≡ false
digit_no_hyphen c digit = digit_unlike c 0x2D refl digit

-- If all characters of a text pass a test, and the first after the text fails it, the text is the part that passes.
pub splits : (test : ℕ → Bool) (text rest : Text) → list_all test text ≡ true → first_meets test rest ≡ false
    → (take_while test (text ++ rest) ≡ text) × (past test (text ++ rest) ≡ rest)
splits test [] [] h ends = (refl, refl)
splits test [] (c ∷ rest) h ends = (
  take_while-cons test c rest ∙ ap (λ x. if x then c ∷ take_while test rest else []) ends,
  past_cons test c rest ∙ ap (λ x. if x then past test rest else c ∷ rest) ends,
)
splits test (c ∷ text) rest h ends =
    let both = and_parts (test c) (list_all test text) h in
    let later = splits test text rest both.1 ends in (
      take_while-cons test c (text ++ rest) ∙ ap₂ (λ x taken. if x then c ∷ taken else []) both.0 later.0,
      past_cons test c (text ++ rest) ∙ ap₂ (λ x left. if x then left else c ∷ (text ++ rest)) both.0 later.1,
    )

hyphen_free : (digits : Text) → list_all is_decimal digits ≡ true → All (λ c. is_hyphen c ≡ false) digits
hyphen_free digits h k d within = digit_no_hyphen _ (AllPass-from_list_all is_decimal digits h k d within)

-- the digits of a date's parts
abbrev pub date_digits : CalendarDate → List Text
date_digits date = four_digits date.year ∷ two_digits date.month ∷ two_digits date.day ∷ []

cut : (date : CalendarDate) → DateSays date → slice_split is_hyphen (date_text date) ≡ date_digits date
cut date parts =
    let year = four_digits date.year in
    let month = two_digits date.month in
    let day = two_digits date.day in
    slice_split_at is_hyphen year 0x2D (month ++ 0x2D ∷ day) (hyphen_free year parts.year.decimal) refl
    ∙ ap (λ rest. year ∷ rest) (slice_split_at is_hyphen month 0x2D day (hyphen_free month parts.month.decimal) refl
    ∙ ap (λ rest. month ∷ rest) (uncut is_hyphen digit_no_hyphen day parts.day.decimal))

-- The date and the text after it, as they are read.
abbrev pub stamp : List Text → Text → Option Resolved
stamp date rest = some_if ((is_date 2 date && length rest == 0) || (is_date 1 date && is_time_after_date rest)) meant_timestamp

-- A date, and after it a text that can't continue a date.
pub before : (date : CalendarDate) → DateSays date → (rest : Text) → first_meets in_date rest ≡ false
    → (take_while in_date (date_text date ++ rest) ≡ date_text date) × (past in_date (date_text date ++ rest) ≡ rest)
before date parts rest ends = splits in_date (date_text date) rest (date_passes in_date digit_in_date refl date parts) ends

-- A date's text after its first digit.
abbrev pub behind_first : CalendarDate → Text
behind_first date = (0x30 + date.year / 100 % 10) ∷ (two_digits date.year ++ codes "-" ++ two_digits date.month ++ codes "-" ++ two_digits date.day)

pub first_digit : (date : CalendarDate) → DateSays date → is_decimal (0x30 + date.year / 1000 % 10) ≡ true
first_digit date parts = (and_parts (is_decimal (0x30 + date.year / 1000 % 10)) _ parts.year.decimal).0

-- A date and the text after it are a timestamp if together they are read as one.
pub reads_before : (date : CalendarDate) → DateSays date → (rest : Text) → first_meets in_date rest ≡ false
    → stamp (date_digits date) rest ≡ Some meant_timestamp → resolved_by_11 (date_text date ++ rest) ≡ meant_timestamp
reads_before date parts rest ends fits =
    let text = date_text date ++ rest in
    let split = before date parts rest ends in
    ap₂ (λ x y. first_reading (x ∷ y ∷ numbers_11 (is_negative text) (past_sign text)))
    (no_word_of_11 false (0x30 + date.year / 1000 % 10) (behind_first date ++ rest) (first_digit date parts))
    (ap₂ stamp (ap (slice_split is_hyphen) split.0 ∙ cut date parts) split.1 ∙ fits)

-- a date alone is one
pub stands_alone : (date : CalendarDate) → DateSays date → stamp (date_digits date) [] ≡ Some meant_timestamp
stands_alone date parts =
    ap (λ fits. some_if ((fits && true) || (is_date 1 (date_digits date) && is_time_after_date [])) meant_timestamp)
    (ap₂ (λ a b. a && b) (ap₂ (λ a b. a && b) parts.year.counted parts.month.counted) parts.day.counted)

pub dates_read : DatesAreRead
dates_read date h =
    let parts = date_says date h in (
      reads_before date parts [] refl (stands_alone date parts),
      ap date_of_parts (cut date parts)
          ∙ ap (λ year. Some (calendar_date year (digits_value 10 (two_digits date.month)) (digits_value 10 (two_digits date.day)))) parts.year.value
          ∙ ap₂ (λ month day. Some (calendar_date date.year month day)) parts.month.value parts.day.value,
    )

-- ---- plain

pub dates_plain : WrittenDatesArePlain
dates_plain date charset tag_written plain_implicit quoted_implicit flow simple_key h returned =
    let parts = date_says date h in
    stands_plain (date_text date) (date_passes is_harmless (λ c digit. digits_pass is_harmless refl c digit) refl date parts) refl
    (begins_as_plain false (0x30 + date.year / 1000 % 10) (behind_first date) (first_digit date parts))
    charset tag_written plain_implicit quoted_implicit flow simple_key returned
