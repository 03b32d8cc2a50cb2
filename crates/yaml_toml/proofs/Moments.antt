-- The moments of dates of TOML, and dates by the core schema.
use Rattle.yaml_toml.proofs.Common.{ℕ, ◌==◌, Option, None, Some, codes, Bool, false, not, true, ◌&&◌, ◌||◌, [], ◌++◌, ◌∷◌, refl, ◌≡◌, arith, ap, subst}
use Rattle.yaml_toml.proofs.Common.{and_parts, and_from, false≢true, list_all, option_and_then, Text, are_digits, resolved_by_core, if◌then◌else◌, ClockTime}
use Rattle.yaml_toml.proofs.Common.{Moment, moment_of, ◌+◌, nat_lt, ℤ, unwrap_or, none-some}
use Rattle.yaml_base.{proofs.NumberCuts.digit_unlike, proofs.NumberCuts.no_word_of_core, specs.values.Resolved.some_if}
use Rattle.yaml_base.proofs.Common.{is_decimal, is_point, is_exponent_letter, past_sign, first_reading, core_integer, core_based, core_decimal, Resolved}
use Rattle.yaml_base.proofs.Common.{meant_text, slice_split, or_from, nat_tests}
use Rattle.yaml_writer.specs.Dates.{CalendarDate, calendar_date, date_text, is_calendar_date, two_digits}
use Rattle.yaml_writer.specs.Times.{ClockOffset, clock_time, is_clock_reading, is_clock_time, is_zone_offset, is_moment}
use Rattle.yaml_writer.specs.TomlDates.{date_of, is_west, offset_of, time_by, time_of, moment_by}
use Rattle.yaml_writer.proofs.DateLemmas.{DateSays, date_says, date_passes, behind_first, first_digit}
use Rattle.toml_datetime.specs.{Valid.magnitude, declared.datetime.Time.Time, declared.datetime.Offset.Offset, declared.datetime.Datetime.Datetime}
use Rattle.toml_datetime.specs.declared.datetime.Offset.TheVariants.{Z, Custom}
use Rattle.std.specs.{List.All, Prelude.◌/◌, Prelude.◌%◌, Prelude.nat_le}
use Rattle.std.proofs.{NetLemmas.Options.map_some, lemmas.List.Splits.slice_split_none, lemmas.List.Sums.AllPass-from_list_all, Common.get_or}
use Rattle.std.proofs.lemmas.Option.{cond_some, option_and_then_some, same_Some}

-- ---- dates by the core schema

-- a hyphen is no digit
no_digits : (a b c d : ℕ) (rest : Text) → list_all is_decimal (a ∷ b ∷ c ∷ d ∷ 0x2D ∷ rest) ≡ false
no_digits a b c d rest = by (is_decimal a) (is_decimal b) (is_decimal c) (is_decimal d)
  where
    by : (w x y z : Bool) → (w && (x && (y && (z && false)))) ≡ false
    by true true true true = refl
    by _ _ _ _ = refl

no_number : (date : CalendarDate) → list_all is_decimal (date_text date) ≡ false
no_number date =
    no_digits (0x30 + date.year / 1000 % 10) (0x30 + date.year / 100 % 10) (0x30 + date.year / 10 % 10) (0x30 + date.year % 10)
    (two_digits date.month ++ codes "-" ++ two_digits date.day)

-- with any first character
not_based : (x y : Bool) (meant : Resolved) → some_if ((x && false) && y) meant ≡ None
not_based true y meant = refl
not_based false y meant = refl

none_of : (sign : ℕ → Bool) (text : Text) → list_all (λ c. not (sign c)) text ≡ true → All (λ c. sign c ≡ false) text
none_of sign text h k d within = not_true (sign (get_or text k d)) (AllPass-from_list_all (λ c. not (sign c)) text h k d within)
  where
    not_true : (x : Bool) → not x ≡ true → x ≡ false
    not_true true e = absurd (false≢true e)
    not_true false e = refl

free : (sign : ℕ → Bool) → ((c : ℕ) → is_decimal c ≡ true → sign c ≡ false) → sign 0x2D ≡ false → (date : CalendarDate) → DateSays date
    → slice_split sign (date_text date) ≡ date_text date ∷ []
free sign other hyphen date parts =
    slice_split_none sign (date_text date)
    (none_of sign (date_text date) (date_passes (λ c. not (sign c)) (λ c digit. ap not (other c digit)) (ap not hyphen) date parts))

digit_no_sign : (c : ℕ) → is_decimal c ≡ true → ((c == 0x2B) || (c == 0x2D)) ≡ false
digit_no_sign c digit = or_from (c == 0x2B) (c == 0x2D) (digit_unlike c 0x2B refl digit) (digit_unlike c 0x2D refl digit)

all_none : (a b c d e : Option Resolved) → a ≡ None → b ≡ None → c ≡ None → d ≡ None → e ≡ None → first_reading (a ∷ b ∷ c ∷ d ∷ e ∷ []) ≡ meant_text
all_none a b c d e one two three four five = rw (one, two, three, four, five)

module _ (date : CalendarDate) (valid : is_calendar_date date ≡ true) where
  parts : DateSays date
  parts = date_says date valid

  unsigned : past_sign (date_text date) ≡ date_text date
  unsigned = ap (λ x. if x then behind_first date else date_text date) (digit_no_sign (0x30 + date.year / 1000 % 10) (first_digit date parts))

  second_digit : is_decimal (0x30 + date.year / 100 % 10) ≡ true
  second_digit = (and_parts (is_decimal (0x30 + date.year / 100 % 10)) _ (and_parts (is_decimal (0x30 + date.year / 1000 % 10)) _ parts.year.decimal).1).0

  no_digits_at_all : are_digits 10 (date_text date) ≡ false
  no_digits_at_all = no_number date

  integer_none : core_integer (date_text date) ≡ None
  integer_none = rw (unsigned, no_digits_at_all)

  based_none : (letter base : ℕ) → is_decimal letter ≡ false → core_based letter base (date_text date) ≡ None
  based_none letter base other = rw (digit_unlike (0x30 + date.year / 100 % 10) letter other second_digit) (not_based _ _ _)

  decimal_none : core_decimal (date_text date) ≡ None
  decimal_none =
      rw (
        unsigned,
        free is_exponent_letter (λ c digit. or_from (c == 0x65) (c == 0x45) (digit_unlike c 0x65 refl digit) (digit_unlike c 0x45 refl digit)) refl date parts,
        free is_point (λ c digit. digit_unlike c 0x2E refl digit) refl date parts,
        no_digits_at_all,
      )

  pub core_date : resolved_by_core (date_text date) ≡ meant_text
  core_date =
      all_none _ _ _ _ _ (no_word_of_core false (0x30 + date.year / 1000 % 10) (behind_first date) (first_digit date parts)) integer_none
      (based_none 0x6F 8 refl) (based_none 0x78 16 refl) decimal_none

-- ---- moments

valid_offset : (minutes : ℤ) (offset : ClockOffset) → offset_of minutes ≡ Some offset → is_zone_offset (Some offset) ≡ true
valid_offset minutes offset e =
    let both = cond_some (nat_lt (magnitude minutes) 1440)
    (record { west = is_west minutes; hours = magnitude minutes / 60; minutes = magnitude minutes % 60 }) offset e in
    let small = both.0 in
    subst (λ (o : ClockOffset). is_zone_offset (Some o) ≡ true) both.1
    (and_from (nat_le (magnitude minutes / 60) 23) (nat_le (magnitude minutes % 60) 59) (grind (arith, nat_tests, small)) (grind (arith, nat_tests)))

valid_time_by : (time : Time) (offset : Option ClockOffset) (clock : ClockTime) → is_zone_offset offset ≡ true → time_by time offset ≡ Some clock
    → is_clock_time clock ≡ true
valid_time_by time offset clock zone e =
    let second = unwrap_or time.second 0 in
    let nanosecond = unwrap_or time.nanosecond 0 in
    let both = cond_some (is_clock_reading time.hour time.minute second nanosecond) (clock_time time.hour time.minute second nanosecond offset) clock e in
    subst (λ (t : ClockTime). is_clock_time t ≡ true) both.1
    (and_from (is_clock_reading time.hour time.minute second nanosecond) (is_zone_offset offset) both.0 zone)

valid_time : (time : Time) (offset : Offset) (clock : ClockTime) → time_of time offset ≡ Some clock → is_clock_time clock ≡ true
valid_time time Z clock e = valid_time_by time None clock refl e
valid_time time (Custom minutes) clock e =
    option_and_then_some (λ offset. time_by time (Some offset)) (offset_of minutes) clock e λ offset is timed.
    valid_time_by time (Some offset) clock (valid_offset minutes offset is) timed

valid_by : (date : CalendarDate) (time : Option Time) (offset : Option Offset) (moment : Moment) → is_calendar_date date ≡ true
    → moment_by date time offset ≡ Some moment → is_moment moment ≡ true
valid_by date None None moment valid e =
    subst (λ (m : Moment). is_moment m ≡ true) (same_Some (record { date = date; time = None }) moment e) (and_from (is_calendar_date date) true valid refl)
valid_by date (Some time) (Some offset) moment valid e =
    map_some {B = Moment} (λ clock. record { date = date; time = Some clock }) (time_of time offset) moment e λ clock is same.
    subst (λ (m : Moment). is_moment m ≡ true) same (and_from (is_calendar_date date) (is_clock_time clock) valid (valid_time time offset clock is))
valid_by date _ _ moment valid e = absurd (none-some moment e)

pub valid_moment : (d : Datetime) (moment : Moment) → moment_of d ≡ Some moment → is_moment moment ≡ true
valid_moment d moment e =
    option_and_then_some _ (option_and_then date_of d.date) moment e λ day dated timed. option_and_then_some date_of d.date day dated λ date given made.
    let both = cond_some (is_calendar_date (calendar_date date.year date.month date.day)) (calendar_date date.year date.month date.day) day made in
    valid_by day d.time d.offset moment (subst (λ (c : CalendarDate). is_calendar_date c ≡ true) both.1 both.0) timed
