-- Times of day are read as themselves.
use Rattle.yaml_writer.proofs.Common.{ℕ, ◌<◌, ◌==◌, if◌then◌else◌, Option, None, Some, length, Bool, false, not, true, ◌&&◌, ◌||◌, List, [], ◌++◌}
use Rattle.yaml_writer.proofs.Common.{◌∷◌, refl, ◌≡◌, eqb-true, ap, ap₂, sym, ◌∙◌, arith, and_parts, and_from, not-true, list_all-append, list_all}
use Rattle.yaml_writer.proofs.Common.{take_while, Text, is_decimal, is_break, first_meets, digit_unlike, nat_lt, chars, chars-literal, option_map}
use Rattle.std.proofs.lemmas.Bool.{or_right}
use Rattle.std.proofs.lemmas.List.{Splits.slice_split_at, Splits.slice_split_none, Sums.AllPass-from_list_all}
use Rattle.std.specs.List.{All}
use Rattle.std.specs.Prelude.{nat_le, ◌+◌, ◌*◌, ◌/◌, ◌%◌}
use Rattle.std.specs.Str.Parse.{digits_value, digits_value_after}
use Rattle.yaml_base.proofs.Common.{agree_below_at, nat_tests, slice_split, past, is_colon, is_date, in_date, is_point, is_blank, meant_timestamp}
use Rattle.yaml_base.proofs.NumberCuts.{uncut, at_point, no_point}
use Rattle.yaml_base.specs.values.Resolved.{some_if}
use Rattle.yaml_base.specs.values.SchemaOf11.{are_seconds, in_clock, is_clock, is_offset, is_time, is_time_after_date, is_zone}
use Rattle.yaml_writer.proofs.DateLemmas.{DateSays, Says, all_pass, before, date_digits, date_passes, date_says, dates_read, digit_ascii}
use Rattle.yaml_writer.proofs.DateLemmas.{reads_before, says, says_so, splits, stamp, stands_alone, two_say}
use Rattle.yaml_writer.proofs.PlainNumbers.{digits_pass}
use Rattle.yaml_writer.specs.Dates.{CalendarDate, date_in, date_text, is_calendar_date, two_digits}
use Rattle.yaml_writer.specs.Times.{ClockOffset, ClockTime, Moment, TimestampsAreRead, clock_of, clock_text, decimals, fraction_text}
use Rattle.yaml_writer.specs.Times.{is_clock_reading, is_moment, is_time_or_none, is_zone_offset, moment_of_parts, nanoseconds_in, offset_of_parts, seconds_of}
use Rattle.yaml_writer.specs.Times.{seconds_text, three_digits, time_in, time_of_parts, time_text, timestamp_text, zone_in, zone_text}

-- ---- decimals

three_say : (number : ℕ) → number < 1000 → Says 3 (three_digits number) number
three_say number small = says_so 3 (three_digits number) number (agree_below_at (λ n. says 3 (three_digits n) n) (λ _. true) 1000 number refl small)

-- Three digits after others.
three_more : (before number : ℕ) → number < 1000 → digits_value_after 10 before (three_digits number) ≡ before * 1000 + number
three_more before number small = omega (arith, (three_say number small).value)

module _ (n : ℕ) (small : n < 1000000000) where
  first : Says 3 (three_digits (n / 1000000)) (n / 1000000)
  first = three_say (n / 1000000) (omega (arith, small))

  second : Says 3 (three_digits (n / 1000 % 1000)) (n / 1000 % 1000)
  second = three_say (n / 1000 % 1000) (omega arith)

  third : Says 3 (three_digits (n % 1000)) (n % 1000)
  third = three_say (n % 1000) (omega arith)

  -- Its decimals by the texts after the first three and the first six of them.
  abbrev parts : (x y : Bool) → Text
  parts x y = three_digits (n / 1000000) ++ (if x then [] else three_digits (n / 1000 % 1000) ++ (if y then [] else three_digits (n % 1000)))

  decimals_are : list_all is_decimal (decimals n) ≡ true
  decimals_are = by (n % 1000000 == 0) (n % 1000 == 0)
    where
      by : (x y : Bool) → list_all is_decimal (parts x y) ≡ true
      by true y = first.decimal
      by false true =
          list_all-append is_decimal (three_digits (n / 1000000)) (three_digits (n / 1000 % 1000)) ∙ ap₂ (λ a b. a && b) first.decimal second.decimal
      by false false =
          list_all-append is_decimal (three_digits (n / 1000000)) (three_digits (n / 1000 % 1000) ++ three_digits (n % 1000))
          ∙ ap₂ (λ a b. a && b) first.decimal
          (list_all-append is_decimal (three_digits (n / 1000 % 1000)) (three_digits (n % 1000)) ∙ ap₂ (λ a b. a && b) second.decimal third.decimal)

  decimals_say : nanoseconds_in (decimals n) ≡ n
  decimals_say = by (n % 1000000 == 0) (n % 1000 == 0) refl refl
    where
      more : digits_value_after 10 (n / 1000000) (three_digits (n / 1000 % 1000)) ≡ n / 1000000 * 1000 + n / 1000 % 1000
      more = three_more (n / 1000000) (n / 1000 % 1000) (omega arith)

      by : (x y : Bool) → (n % 1000000 == 0) ≡ x → (n % 1000 == 0) ≡ y → nanoseconds_in (parts x y) ≡ n
      by true y e f = ap (λ v. v * 1000000) first.value ∙ omega (arith, eqb-true (n % 1000000) 0 e)
      by false true e f =
          ap (λ v. digits_value_after 10 v (three_digits (n / 1000 % 1000)) * 1000) first.value
          ∙ ap (λ v. v * 1000) more ∙ omega (arith, eqb-true (n % 1000) 0 f)
      by false false e f =
          ap (λ v. digits_value_after 10 v (three_digits (n / 1000 % 1000) ++ three_digits (n % 1000)) * 1) first.value
          ∙ ap (λ v. digits_value_after 10 v (three_digits (n % 1000)) * 1) more
          ∙ ap (λ v. v * 1) (three_more (n / 1000000 * 1000 + n / 1000 % 1000) (n % 1000) (omega arith)) ∙ omega arith

-- ---- the parts of a time

pub two : (number : ℕ) → number < 100 → Says 2 (two_digits number) number
two number small = says_so 2 (two_digits number) number (two_say number small)

-- The meaning of the parts of a time.
pub record TimeSays (time : ClockTime) : Type 0 where
  pub hour : Says 2 (two_digits time.hour) time.hour
  pub minute : Says 2 (two_digits time.minute) time.minute
  pub second : Says 2 (two_digits time.second) time.second
  pub small : time.nanosecond < 1000000000

pub time_says : (time : ClockTime) → is_clock_reading time.hour time.minute time.second time.nanosecond ≡ true → TimeSays time
time_says time h =
    let parts = and_parts (nat_le time.hour 23 && nat_le time.minute 59) (nat_le time.second 59 && nat_le time.nanosecond 999999999) h in
    let first = and_parts (nat_le time.hour 23) (nat_le time.minute 59) parts.0 in
    let last = and_parts (nat_le time.second 59) (nat_le time.nanosecond 999999999) parts.1 in
    record {
      hour = two time.hour (grind (arith, nat_tests, first.0));
      minute = two time.minute (grind (arith, nat_tests, first.1));
      second = two time.second (grind (arith, nat_tests, last.0));
      small = grind (arith, nat_tests, last.1);
    }

-- ---- characters

-- a test that all characters of a time of day pass
record PassesTimes (test : ℕ → Bool) : Type 0 where
  digit : (c : ℕ) → is_decimal c ≡ true → test c ≡ true
  colon : test 0x3A ≡ true
  point : test 0x2E ≡ true

pub fraction_passes : (test : ℕ → Bool) → ((c : ℕ) → is_decimal c ≡ true → test c ≡ true) → test 0x2E ≡ true → (n : ℕ) → n < 1000000000
    → list_all test (fraction_text n) ≡ true
fraction_passes test digit point n small = by (n == 0)
  where
    by : (x : Bool) → list_all test (if x then [] else 0x2E ∷ decimals n) ≡ true
    by true = refl
    by false = and_from (test 0x2E) (list_all test (decimals n)) point (all_pass test digit (decimals n) (decimals_are n small))

seconds_pass : (test : ℕ → Bool) → ((c : ℕ) → is_decimal c ≡ true → test c ≡ true) → test 0x2E ≡ true → (time : ClockTime) → TimeSays time
    → list_all test (seconds_text time.second time.nanosecond) ≡ true
seconds_pass test digit point time parts =
    list_all-append test (two_digits time.second) (fraction_text time.nanosecond)
    ∙ ap₂ (λ a b. a && b) (all_pass test digit (two_digits time.second) parts.second.decimal) (fraction_passes test digit point time.nanosecond parts.small)

clock_passes : (test : ℕ → Bool) → PassesTimes test → (time : ClockTime) → TimeSays time → list_all test (clock_text time) ≡ true
clock_passes test passes time parts =
    let seconds = seconds_text time.second time.nanosecond in
    list_all-append test (two_digits time.hour) (0x3A ∷ (two_digits time.minute ++ 0x3A ∷ seconds))
    ∙ ap₂ (λ a b. a && b) (all_pass test passes.digit (two_digits time.hour) parts.hour.decimal)
    (ap₂ (λ a b. a && b) passes.colon (list_all-append test (two_digits time.minute) (0x3A ∷ seconds)
    ∙ ap₂ (λ a b. a && b) (all_pass test passes.digit (two_digits time.minute) parts.minute.decimal)
    (ap₂ (λ a b. a && b) passes.colon (seconds_pass test passes.digit passes.point time parts))))

-- ---- cuts

digit_no_colon : (c : ℕ) → is_decimal c ≡ true → is_colon c ≡ false
digit_no_colon c digit = digit_unlike c 0x3A refl digit

-- Texts without a colon.
free : (text : Text) → list_all (λ c. not (is_colon c)) text ≡ true → All (λ c. is_colon c ≡ false) text
free text h k d within = not-true _ (AllPass-from_list_all (λ c. not (is_colon c)) text h k d within)

digits_free : (digits : Text) → list_all is_decimal digits ≡ true → All (λ c. is_colon c ≡ false) digits
digits_free digits h k d within = digit_no_colon _ (AllPass-from_list_all is_decimal digits h k d within)

cut_clock : (time : ClockTime) → TimeSays time
    → slice_split is_colon (clock_text time) ≡ two_digits time.hour ∷ two_digits time.minute ∷ seconds_text time.second time.nanosecond ∷ []
cut_clock time parts =
    let hour = two_digits time.hour in
    let minute = two_digits time.minute in
    let seconds = seconds_text time.second time.nanosecond in
    let bare = seconds_pass (λ c. not (is_colon c)) (λ c digit. ap not (digit_no_colon c digit)) refl time parts in
    slice_split_at is_colon hour 0x3A (minute ++ 0x3A ∷ seconds) (digits_free hour parts.hour.decimal) refl
    ∙ ap (λ rest. hour ∷ rest) (slice_split_at is_colon minute 0x3A seconds (digits_free minute parts.minute.decimal) refl
    ∙ ap (λ rest. minute ∷ rest) (slice_split_none is_colon seconds (free seconds bare)))

-- ---- seconds

-- Seconds by the texts before and after their point.
record SecondsSay (second nanosecond : ℕ) : Type 0 where
  are : are_seconds (slice_split is_point (seconds_text second nanosecond)) ≡ true
  value : seconds_of (slice_split is_point (seconds_text second nanosecond)) ≡ Some (second, nanosecond)

seconds_say : (second n : ℕ) → Says 2 (two_digits second) second → n < 1000000000 → SecondsSay second n
seconds_say second n says small = record { are = (pair (n == 0) refl).0; value = (pair (n == 0) refl).1 }
  where
    digits : Text
    digits = two_digits second

    pair : (x : Bool) → (n == 0) ≡ x
        → (are_seconds (slice_split is_point (digits ++ (if x then [] else 0x2E ∷ decimals n))) ≡ true)
        × (seconds_of (slice_split is_point (digits ++ (if x then [] else 0x2E ∷ decimals n))) ≡ Some (second, n))
    pair true e =
        let split = no_point digits says.decimal in
        (ap are_seconds split ∙ says.counted, ap seconds_of split ∙ ap₂ (λ s t. Some (s, t)) says.value (sym (eqb-true n 0 e)))
    pair false e =
        let are = decimals_are n small in
        let split = at_point digits (decimals n) says.decimal are in
        (ap are_seconds split ∙ ap₂ (λ a b. a && b) says.counted are, ap seconds_of split ∙ ap₂ (λ s t. Some (s, t)) says.value (decimals_say n small))

-- ---- offsets

-- how an offset is read
record ZoneSays (offset : Option ClockOffset) : Type 0 where
  ends : first_meets in_clock (zone_text offset) ≡ false
  is : is_zone (past is_blank (zone_text offset)) ≡ true
  value : zone_in (past is_blank (zone_text offset)) ≡ Some offset

zone_says : (offset : Option ClockOffset) → is_zone_offset offset ≡ true → ZoneSays offset
zone_says None h = record { ends = refl; is = refl; value = refl }
zone_says (Some offset) h = record { ends = ends offset.west; is = is offset.west; value = value offset.west }
  where
    within : (nat_le offset.hours 23 ≡ true) × (nat_le offset.minutes 59 ≡ true)
    within = and_parts (nat_le offset.hours 23) (nat_le offset.minutes 59) h

    hours : Says 2 (two_digits offset.hours) offset.hours
    hours = two offset.hours (grind (arith, nat_tests, within.0))

    minutes : Says 2 (two_digits offset.minutes) offset.minutes
    minutes = two offset.minutes (grind (arith, nat_tests, within.1))

    rest : Text
    rest = two_digits offset.hours ++ 0x3A ∷ two_digits offset.minutes

    split : slice_split is_colon rest ≡ two_digits offset.hours ∷ two_digits offset.minutes ∷ []
    split =
        slice_split_at is_colon (two_digits offset.hours) 0x3A (two_digits offset.minutes) (digits_free (two_digits offset.hours) hours.decimal) refl
        ∙ ap (λ parts. two_digits offset.hours ∷ parts) (uncut is_colon digit_no_colon (two_digits offset.minutes) minutes.decimal)

    fits : is_offset (slice_split is_colon rest) ≡ true
    fits = ap is_offset split ∙ ap₂ (λ a b. a && b) hours.decimal minutes.counted

    ends : (x : Bool) → in_clock (if x then 0x2D else 0x2B) ≡ false
    ends true = refl
    ends false = refl

    is : (x : Bool) → is_zone (past is_blank ((if x then 0x2D else 0x2B) ∷ rest)) ≡ true
    is true = fits
    is false = fits

    value : (x : Bool) → zone_in (past is_blank ((if x then 0x2D else 0x2B) ∷ rest))
        ≡ Some (Some (record { west = x; hours = offset.hours; minutes = offset.minutes }))
    value x = by x ∙ ap₂ (λ h m. Some (Some (record { west = x; hours = h; minutes = m }))) hours.value minutes.value
      where
        by : (x : Bool) → zone_in (past is_blank ((if x then 0x2D else 0x2B) ∷ rest))
            ≡ Some (Some (record {
              west = x;
              hours = digits_value 10 (two_digits offset.hours);
              minutes = digits_value 10 (two_digits offset.minutes);
            }))
        by true = ap (λ (parts : List Text). option_map (λ (offset : ClockOffset). Some offset) (offset_of_parts true parts)) split
        by false = ap (λ (parts : List Text). option_map (λ (offset : ClockOffset). Some offset) (offset_of_parts false parts)) split

-- ---- times

clock_is : (time : ClockTime) → TimeSays time → is_clock (slice_split is_colon (clock_text time)) ≡ true
clock_is time parts =
    let seconds = seconds_say time.second time.nanosecond parts.second parts.small in
    ap is_clock (cut_clock time parts) ∙ ap₂ (λ a b. a && b) (ap₂ (λ a b. a && b) parts.hour.decimal parts.minute.counted) seconds.are

clock_value : (time : ClockTime) → TimeSays time → clock_of (slice_split is_colon (clock_text time)) (Some time.offset) ≡ Some (Some time)
clock_value time parts =
    let seconds = seconds_say time.second time.nanosecond parts.second parts.small in
    ap (λ (split : List Text). clock_of split (Some time.offset)) (cut_clock time parts)
    ∙ ap (λ (read : Option (ℕ × ℕ)). time_of_parts (two_digits time.hour) (two_digits time.minute) read (Some time.offset)) seconds.value
    ∙ ap₂ (λ h m. Some (Some (record { hour = h; minute = m; second = time.second; nanosecond = time.nanosecond; offset = time.offset })))
    parts.hour.value parts.minute.value

in_times : PassesTimes in_clock
in_times = record { digit = λ c digit. ap (λ x. x || is_colon c || is_point c) digit; colon = refl; point = refl }

-- How a time after a date is read.
record Reads (time : Option ClockTime) : Type 0 where
  ends : first_meets in_date (time_text time) ≡ false
  fits : (date : CalendarDate) → DateSays date → stamp (date_digits date) (time_text time) ≡ Some meant_timestamp
  value : time_in (time_text time) ≡ Some time

time_reads : (time : Option ClockTime) → is_time_or_none time ≡ true → Reads time
time_reads None h = record { ends = refl; fits = stands_alone; value = refl }
time_reads (Some time) h =
    let first : is_decimal (0x30 + time.hour / 10 % 10) ≡ true = (and_parts (is_decimal (0x30 + time.hour / 10 % 10)) _ parts.hour.decimal).0 in
    let unblank = not-true (is_blank (0x30 + time.hour / 10 % 10)) (digits_pass (λ c. not (is_blank c)) refl (0x30 + time.hour / 10 % 10) first) in
    let value =
    ap (λ (text : Text). clock_of (slice_split is_colon (take_while in_clock text)) (zone_in (past is_blank (past in_clock text))))
    (splits is_blank [] text refl unblank).1
    ∙ ap₂ (λ (clock rest : Text). clock_of (slice_split is_colon clock) (zone_in (past is_blank rest))) split.0 split.1
    ∙ ap (λ zone. clock_of (slice_split is_colon (clock_text time)) zone) zone.value ∙ clock_value time parts in
    record { ends = refl; fits = fits; value = value }
  where
    both : (is_clock_reading time.hour time.minute time.second time.nanosecond ≡ true) × (is_zone_offset time.offset ≡ true)
    both = and_parts (is_clock_reading time.hour time.minute time.second time.nanosecond) (is_zone_offset time.offset) h

    parts : TimeSays time
    parts = time_says time both.0

    zone : ZoneSays time.offset
    zone = zone_says time.offset both.1

    text : Text
    text = clock_text time ++ zone_text time.offset

    split : (take_while in_clock text ≡ clock_text time) × (past in_clock text ≡ zone_text time.offset)
    split = splits in_clock (clock_text time) (zone_text time.offset) (clock_passes in_clock in_times time parts) zone.ends

    is : is_time text ≡ true
    is =
        ap₂ (λ (clock rest : Text). is_clock (slice_split is_colon clock) && (length rest == 0 || is_zone (past is_blank rest))) split.0 split.1
        ∙ ap₂ (λ a b. a && b) (clock_is time parts) (or_right (length (zone_text time.offset) == 0) (is_zone (past is_blank (zone_text time.offset))) zone.is)

    fits : (date : CalendarDate) → DateSays date → stamp (date_digits date) (0x54 ∷ text) ≡ Some meant_timestamp
    fits date says =
        ap (λ x. some_if x meant_timestamp)
        (or_right (is_date 2 (date_digits date) && length (0x54 ∷ text) == 0) (is_date 1 (date_digits date) && is_time_after_date (0x54 ∷ text))
        (ap₂ (λ a b. a && b) (ap₂ (λ a b. a && b) (ap₂ (λ a b. a && b) says.year.counted says.month.decimal) says.day.decimal)
        (ap (λ x. x || false) is)))

pub timestamps_read : TimestampsAreRead
timestamps_read moment h =
    let both = and_parts (is_calendar_date moment.date) (is_time_or_none moment.time) h in
    let parts = date_says moment.date both.0 in
    let time = time_reads moment.time both.1 in
    let split = before moment.date parts (time_text moment.time) time.ends in (
      reads_before moment.date parts (time_text moment.time) time.ends (time.fits moment.date parts),
      ap₂ moment_of_parts (ap date_in split.0 ∙ (dates_read moment.date both.0).1) (ap time_in split.1 ∙ time.value),
    )

-- ---- bytes

abbrev pub is_plain_ascii : ℕ → Bool
is_plain_ascii c = nat_lt c 128 && not (is_break c)

zone_ascii : (offset : Option ClockOffset) → is_zone_offset offset ≡ true → list_all is_plain_ascii (zone_text offset) ≡ true
zone_ascii None h = refl
zone_ascii (Some offset) h = by offset.west
  where
    within : (nat_le offset.hours 23 ≡ true) × (nat_le offset.minutes 59 ≡ true)
    within = and_parts (nat_le offset.hours 23) (nat_le offset.minutes 59) h

    rest : list_all is_plain_ascii (two_digits offset.hours ++ 0x3A ∷ two_digits offset.minutes) ≡ true
    rest =
        list_all-append is_plain_ascii (two_digits offset.hours) (0x3A ∷ two_digits offset.minutes)
        ∙ ap₂ (λ a b. a && b)
        (all_pass is_plain_ascii digit_ascii (two_digits offset.hours) (two offset.hours (grind (arith, nat_tests, within.0))).decimal)
        (all_pass is_plain_ascii digit_ascii (two_digits offset.minutes) (two offset.minutes (grind (arith, nat_tests, within.1))).decimal)

    by : (x : Bool) → list_all is_plain_ascii ((if x then 0x2D else 0x2B) ∷ (two_digits offset.hours ++ 0x3A ∷ two_digits offset.minutes)) ≡ true
    by true = rest
    by false = rest

time_ascii : (time : Option ClockTime) → is_time_or_none time ≡ true → list_all is_plain_ascii (time_text time) ≡ true
time_ascii None h = refl
time_ascii (Some time) h =
    let both = and_parts (is_clock_reading time.hour time.minute time.second time.nanosecond) (is_zone_offset time.offset) h in
    list_all-append is_plain_ascii (clock_text time) (zone_text time.offset)
    ∙ ap₂ (λ a b. a && b)
    (clock_passes is_plain_ascii (record { digit = digit_ascii; colon = refl; point = refl }) time (time_says time both.0))
    (zone_ascii time.offset both.1)

pub timestamp_ascii : (moment : Moment) → is_moment moment ≡ true → list_all is_plain_ascii (timestamp_text moment) ≡ true
timestamp_ascii moment h =
    let both = and_parts (is_calendar_date moment.date) (is_time_or_none moment.time) h in
    list_all-append is_plain_ascii (date_text moment.date) (time_text moment.time)
    ∙ ap₂ (λ a b. a && b) (date_passes is_plain_ascii digit_ascii refl moment.date (date_says moment.date both.0)) (time_ascii moment.time both.1)

-- the characters of a timestamp's bytes are these bytes
pub timestamp_chars : (moment : Moment) → is_moment moment ≡ true → chars (timestamp_text moment) ≡ timestamp_text moment
timestamp_chars moment h = chars-literal (timestamp_text moment) (timestamp_ascii moment h)
