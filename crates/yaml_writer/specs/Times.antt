-- Times of day with dates, how they are written, and how the type repository of YAML 1.1 reads them (yaml.org/type/timestamp).
use Rattle.std.specs.Prelude.{◌≡◌, ℕ, Bool, false, true, ◌||◌, Option, None, Some, List, [], ◌∷◌, ◌++◌, ◌==◌, ◌&&◌, ◌*◌, ◌-◌, ◌/◌, ◌%◌, ◌^◌, nat_le}
use Rattle.std.specs.Prelude.{codes, length, option_map, if◌then◌else◌}
use Rattle.std.specs.List.{slice_split, take_while}
use Rattle.std.specs.Str.Parse.{digits_value}
use Rattle.yaml_base.specs.Characters.{Text, is_blank}
use Rattle.yaml_base.specs.Event.{plain}
use Rattle.yaml_base.specs.scalars.Analysis.{Charset, allowances, is_empty}
use Rattle.yaml_base.specs.scalars.Style.{chosen}
use Rattle.yaml_base.specs.values.Resolved.{is_point, meant_timestamp}
use Rattle.yaml_base.specs.values.SchemaOf11.{in_clock, in_date, is_colon, past, resolved_by_11}
use Rattle.yaml_writer.specs.Dates.{CalendarDate, date_in, date_text, is_calendar_date, last_digit, two_digits}

-- ---- the clock

-- how far a clock is from that of UTC: west of it, its time is less
pub record ClockOffset : Type 0 where
  pub west : Bool
  pub hours : ℕ
  pub minutes : ℕ

-- a time of day, and how far its clock is from UTC; none is UTC itself
pub record ClockTime : Type 0 where
  pub hour : ℕ
  pub minute : ℕ
  pub second : ℕ
  pub nanosecond : ℕ
  pub offset : Option ClockOffset

-- the time of these parts
abbrev pub clock_time : (hour minute second nanosecond : ℕ) → Option ClockOffset → ClockTime
clock_time hour minute second nanosecond offset =
    record { hour = hour; minute = minute; second = second; nanosecond = nanosecond; offset = offset }

-- a date, and a time of that day or none
pub record Moment : Type 0 where
  pub date : CalendarDate
  pub time : Option ClockTime

-- less than a day
abbrev pub is_clock_offset : (hours minutes : ℕ) → Bool
is_clock_offset hours minutes = nat_le hours 23 && nat_le minutes 59

-- none, or less than a day
abbrev pub is_zone_offset : Option ClockOffset → Bool
is_zone_offset None = true
is_zone_offset (Some offset) = is_clock_offset offset.hours offset.minutes

-- a time that a clock of 24 hours shows
abbrev pub is_clock_reading : (hour minute second nanosecond : ℕ) → Bool
is_clock_reading hour minute second nanosecond =
    (nat_le hour 23 && nat_le minute 59) && (nat_le second 59 && nat_le nanosecond 999999999)

-- such a time and such an offset
abbrev pub is_clock_time : ClockTime → Bool
is_clock_time time = is_clock_reading time.hour time.minute time.second time.nanosecond && is_zone_offset time.offset

-- a time of a day, or none
abbrev pub is_time_or_none : Option ClockTime → Bool
is_time_or_none None = true
is_time_or_none (Some time) = is_clock_time time

-- a date of the calendar, and a time of that day or none
abbrev pub is_moment : Moment → Bool
is_moment moment = is_calendar_date moment.date && is_time_or_none moment.time

-- ---- the text

-- a number's last three decimal digits
abbrev pub three_digits : ℕ → Text
three_digits number = last_digit (number / 100) ∷ two_digits number

-- Nanoseconds as decimals of a second: in thousandths if that is exact, else in millionths if that is, else in billionths.
abbrev pub decimals : ℕ → Text
decimals nanosecond =
    three_digits (nanosecond / 1000000)
    ++ (if nanosecond % 1000000 == 0 then []
    else three_digits (nanosecond / 1000 % 1000) ++ (if nanosecond % 1000 == 0 then [] else three_digits (nanosecond % 1000)))

-- A point and the decimals, if there are any.
abbrev pub fraction_text : ℕ → Text
fraction_text nanosecond = if nanosecond == 0 then [] else codes "." ++ decimals nanosecond

-- `Z` for UTC, else a sign, hours and minutes
abbrev pub zone_text : Option ClockOffset → Text
zone_text None = codes "Z"
zone_text (Some offset) = (if offset.west then 0x2D else 0x2B) ∷ (two_digits offset.hours ++ codes ":" ++ two_digits offset.minutes)

-- seconds and their decimals
abbrev pub seconds_text : (second nanosecond : ℕ) → Text
seconds_text second nanosecond = two_digits second ++ fraction_text nanosecond

-- hours, minutes and seconds, with colons between them
abbrev pub clock_text : ClockTime → Text
clock_text time = two_digits time.hour ++ codes ":" ++ two_digits time.minute ++ codes ":" ++ seconds_text time.second time.nanosecond

-- `T` and a time, or nothing
abbrev pub time_text : Option ClockTime → Text
time_text None = []
time_text (Some time) = codes "T" ++ clock_text time ++ zone_text time.offset

-- A date, and the time after it.
abbrev pub timestamp_text : Moment → Text
timestamp_text moment = date_text moment.date ++ time_text moment.time

-- ---- reading

-- Decimals of a second in nanoseconds, if they are at most nine.
abbrev pub nanoseconds_in : Text → ℕ
nanoseconds_in digits = digits_value 10 digits * 10 ^ (9 - length digits)

-- Seconds and nanoseconds by the texts before and after the point.
abbrev pub seconds_of : List Text → Option (ℕ × ℕ)
seconds_of (seconds ∷ []) = Some (digits_value 10 seconds, 0)
seconds_of (seconds ∷ digits ∷ []) = Some (digits_value 10 seconds, nanoseconds_in digits)
seconds_of _ = None

-- an offset by its sign and its parts
abbrev pub offset_of_parts : (west : Bool) → List Text → Option ClockOffset
offset_of_parts west (hours ∷ []) = Some (record { west = west; hours = digits_value 10 hours; minutes = 0 })
offset_of_parts west (hours ∷ minutes ∷ []) = Some (record { west = west; hours = digits_value 10 hours; minutes = digits_value 10 minutes })
offset_of_parts west _ = None

-- the offset that a text says; none and `Z` are UTC
abbrev pub zone_in : Text → Option (Option ClockOffset)
zone_in [] = Some None
zone_in (c ∷ rest) =
    if c == 0x5A then Some None else option_map (λ (offset : ClockOffset). Some offset) (offset_of_parts (c == 0x2D) (slice_split is_colon rest))

-- a time by its hours and minutes, its seconds and its offset
abbrev pub time_of_parts : (hour minute : Text) → Option (ℕ × ℕ) → Option (Option ClockOffset) → Option (Option ClockTime)
time_of_parts hour minute (Some seconds) (Some offset) =
    Some (Some (clock_time (digits_value 10 hour) (digits_value 10 minute) seconds.0 seconds.1 offset))
time_of_parts hour minute _ _ = None

-- A time by the texts between the colons.
abbrev pub clock_of : List Text → Option (Option ClockOffset) → Option (Option ClockTime)
clock_of (hour ∷ minute ∷ seconds ∷ []) offset = time_of_parts hour minute (seconds_of (slice_split is_point seconds)) offset
clock_of _ offset = None

-- The time after a date and a letter or blanks; none if nothing follows.
abbrev pub time_in : Text → Option (Option ClockTime)
time_in [] = Some None
time_in (c ∷ rest) =
    let text = past is_blank rest in clock_of (slice_split is_colon (take_while in_clock text)) (zone_in (past is_blank (past in_clock text)))

-- both
abbrev pub moment_of_parts : Option CalendarDate → Option (Option ClockTime) → Option Moment
moment_of_parts (Some date) (Some time) = Some (record { date = date; time = time })
moment_of_parts _ _ = None

-- the date that a text says, and the time
abbrev pub moment_in : Text → Option Moment
moment_in text = moment_of_parts (date_in (take_while in_date text)) (time_in (past in_date text))

-- every date is read as a timestamp of YAML 1.1, with a time of day or without, and as itself
abbrev pub TimestampsAreRead : Type 0
TimestampsAreRead =
    (moment : Moment) → is_moment moment ≡ true
    → (resolved_by_11 (timestamp_text moment) ≡ meant_timestamp) × (moment_in (timestamp_text moment) ≡ Some moment)

-- In blocks, in which a plain text may hold `:`, a timestamp is written plain outside canonical form, whichever characters are written as
-- themselves, if its tag is written or its flag for plain text is set.
abbrev pub WrittenTimestampsArePlain : Type 0
WrittenTimestampsArePlain =
    (moment : Moment) (charset : Charset) (tag_written plain_implicit quoted_implicit simple_key : Bool)
    → is_moment moment ≡ true → (tag_written || plain_implicit) ≡ true
    → let text = timestamp_text moment in
    (chosen (allowances charset text) plain (is_empty text) tag_written plain_implicit quoted_implicit false simple_key false).style ≡ plain
