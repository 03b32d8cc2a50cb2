-- Timestamps are written plain in block.
use Rattle.yaml_writer.proofs.Common.{ℕ, if◌then◌else◌, Option, None, Some, Bool, false, not, true, ◌||◌, [], ◌++◌, ◌∷◌, refl, ◌≡◌, arith, and_parts}
use Rattle.yaml_writer.proofs.Common.{not-true, list_all, Text, is_decimal, is_break, nat_lt, or_from, list_any}
use Rattle.std.specs.Prelude.{nat_le, ◌+◌, ◌/◌, ◌%◌}
use Rattle.yaml_base.proofs.Common.{nat_tests}
use Rattle.yaml_base.specs.scalars.Analysis.{bars_plain, is_gap, is_key_or_comment, is_special, somewhere, Charset}
use Rattle.yaml_writer.proofs.DateLemmas.{Says, all_pass, date_passes, date_says, says, behind_first, first_digit}
use Rattle.yaml_writer.proofs.PlainNumbers.{begins_as_plain, digit_harmless, harmless_before, is_harmless, never_special, no_harm, nowhere_barred}
use Rattle.yaml_writer.proofs.PlainNumbers.{stands_plain_there}
use Rattle.yaml_writer.specs.Times.{WrittenTimestampsArePlain, ClockOffset, ClockTime, fraction_text, is_clock_reading, is_time_or_none}
use Rattle.yaml_writer.specs.Times.{is_zone_offset, time_text, timestamp_text, zone_text}
use Rattle.yaml_writer.specs.Dates.{date_text, is_calendar_date, two_digits}
use Rattle.yaml_writer.proofs.TimeLemmas.{fraction_passes, is_plain_ascii, time_says, timestamp_ascii, two}

-- a colon before a digit
colon_before : (charset : Charset) (c : ℕ) (rest : Text) → is_decimal c ≡ true → somewhere (bars_plain charset false) (c ∷ rest) ≡ false
    → somewhere (bars_plain charset false) (0x3A ∷ c ∷ rest) ≡ false
colon_before charset c rest digit free =
    or_from (bars_plain charset false 0x3A (c ∷ rest)) (somewhere (bars_plain charset false) (c ∷ rest))
    (or_from (is_special charset 0x3A || false || false || is_key_or_comment 0x3A (c ∷ rest)) false
    (or_from (is_special charset 0x3A || false || false) (is_key_or_comment 0x3A (c ∷ rest))
    (or_from (is_special charset 0x3A || false) false (or_from (is_special charset 0x3A) false (never_special charset 0x3A refl) refl) refl)
    (or_from (is_gap c) false (no_harm c (digit_harmless c digit)).gap refl)) refl)
    free

-- a colon before two digits
colon_then : (charset : Charset) (number : ℕ) (rest : Text) → Says 2 (two_digits number) number → somewhere (bars_plain charset false) rest ≡ false
    → somewhere (bars_plain charset false) (0x3A ∷ (two_digits number ++ rest)) ≡ false
colon_then charset number rest says free =
    colon_before charset (0x30 + number / 10 % 10) ((0x30 + number % 10) ∷ rest) (and_parts (is_decimal (0x30 + number / 10 % 10)) _ says.decimal).0
    (harmless_before charset false (two_digits number) rest (all_pass is_harmless digit_harmless (two_digits number) says.decimal) free)

zone_free : (charset : Charset) (offset : Option ClockOffset) → is_zone_offset offset ≡ true → somewhere (bars_plain charset false) (zone_text offset) ≡ false
zone_free charset None h = nowhere_barred charset false (zone_text None) refl
zone_free charset (Some offset) h = by offset.west
  where
    within : (nat_le offset.hours 23 ≡ true) × (nat_le offset.minutes 59 ≡ true)
    within = and_parts (nat_le offset.hours 23) (nat_le offset.minutes 59) h

    hours : Says 2 (two_digits offset.hours) offset.hours
    hours = two offset.hours (grind (arith, nat_tests, within.0))

    minutes : Says 2 (two_digits offset.minutes) offset.minutes
    minutes = two offset.minutes (grind (arith, nat_tests, within.1))

    rest : somewhere (bars_plain charset false) (two_digits offset.hours ++ 0x3A ∷ two_digits offset.minutes) ≡ false
    rest =
        harmless_before charset false (two_digits offset.hours) (0x3A ∷ two_digits offset.minutes)
        (all_pass is_harmless digit_harmless (two_digits offset.hours) hours.decimal) (colon_then charset offset.minutes [] minutes refl)

    by : (x : Bool) → somewhere (bars_plain charset false) ((if x then 0x2D else 0x2B) ∷ (two_digits offset.hours ++ 0x3A ∷ two_digits offset.minutes)) ≡ false
    by true = harmless_before charset false (0x2D ∷ []) (two_digits offset.hours ++ 0x3A ∷ two_digits offset.minutes) refl rest
    by false = harmless_before charset false (0x2B ∷ []) (two_digits offset.hours ++ 0x3A ∷ two_digits offset.minutes) refl rest

time_free : (charset : Charset) (time : Option ClockTime) → is_time_or_none time ≡ true → somewhere (bars_plain charset false) (time_text time) ≡ false
time_free charset None h = refl
time_free charset (Some time) h =
    let both = and_parts (is_clock_reading time.hour time.minute time.second time.nanosecond) (is_zone_offset time.offset) h in
    let parts = time_says time both.0 in
    let zone = zone_text time.offset in
    let fraction = fraction_text time.nanosecond in
    let behind =
    harmless_before charset false fraction zone (fraction_passes is_harmless digit_harmless refl time.nanosecond parts.small)
    (zone_free charset time.offset both.1) in
    let seconds = colon_then charset time.second (fraction ++ zone) parts.second behind in
    let minutes = colon_then charset time.minute (0x3A ∷ (two_digits time.second ++ (fraction ++ zone))) parts.minute seconds in
    harmless_before charset false (0x54 ∷ two_digits time.hour) (0x3A ∷ (two_digits time.minute ++ (0x3A ∷ (two_digits time.second ++ (fraction ++ zone)))))
    (all_pass is_harmless digit_harmless (two_digits time.hour) parts.hour.decimal) minutes

-- no timestamp holds a break
unbroken_ascii : (text : Text) → list_all is_plain_ascii text ≡ true → list_any is_break text ≡ false
unbroken_ascii [] h = refl
unbroken_ascii (c ∷ text) h =
    let both = and_parts (is_plain_ascii c) (list_all is_plain_ascii text) h in
    or_from (is_break c) (list_any is_break text) (not-true (is_break c) (and_parts (nat_lt c 128) (not (is_break c)) both.0).1) (unbroken_ascii text both.1)

pub timestamps_plain : WrittenTimestampsArePlain
timestamps_plain moment charset tag_written plain_implicit quoted_implicit simple_key h returned =
    let both = and_parts (is_calendar_date moment.date) (is_time_or_none moment.time) h in
    let parts = date_says moment.date both.0 in
    let time = time_text moment.time in
    stands_plain_there (timestamp_text moment) false
    (λ charset.
    harmless_before charset false (date_text moment.date) time (date_passes is_harmless digit_harmless refl moment.date parts)
    (time_free charset moment.time both.1))
    (unbroken_ascii (timestamp_text moment) (timestamp_ascii moment h)) refl
    (begins_as_plain false (0x30 + moment.date.year / 1000 % 10) (behind_first moment.date ++ time) (first_digit moment.date parts))
    charset tag_written plain_implicit quoted_implicit simple_key returned
