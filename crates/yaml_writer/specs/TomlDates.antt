-- The dates and times of TOML that YAML 1.1 has as timestamps.
use Rattle.std.specs.Prelude.{ℤ, pos, negsuc, Bool, true, false, Option, None, Some, ◌/◌, ◌%◌, nat_lt, option_map, option_and_then, unwrap_or}
use Rattle.std.specs.Prelude.{if◌then◌else◌}
use Rattle.std.specs.Str.{chars}
use Rattle.toml_datetime.specs.Text.{datetime_text}
use Rattle.toml_datetime.specs.Valid.{magnitude}
use Rattle.toml_datetime.specs.declared.datetime.Date as toml_date
use Rattle.toml_datetime.specs.declared.datetime.Time as toml_time
use Rattle.toml_datetime.specs.declared.datetime.Offset as toml_offset
use Rattle.toml_datetime.specs.declared.datetime.Offset.TheVariants.{Z, Custom}
use Rattle.toml_datetime.specs.declared.datetime.Datetime.{Datetime}
use Rattle.yaml_base.specs.Event.{Event}
use Rattle.yaml_writer.specs.Dates.{CalendarDate, calendar_date, is_calendar_date}
use Rattle.yaml_writer.specs.Times.{ClockOffset, ClockTime, Moment, clock_time, is_clock_reading}
use Rattle.yaml_writer.specs.Writing.{WriterState, text_event, timestamp_event}

-- a date of the years 1 to 9999
abbrev pub date_of : toml_date.Date → Option CalendarDate
date_of date =
    let same = calendar_date date.year date.month date.day in
    if is_calendar_date same then Some same else None

-- an offset of less than a day
abbrev pub is_west : ℤ → Bool
is_west (pos n) = false
is_west (negsuc n) = true

abbrev pub offset_of : ℤ → Option ClockOffset
offset_of minutes =
    if nat_lt (magnitude minutes) 1440
    then Some (record { west = is_west minutes; hours = magnitude minutes / 60; minutes = magnitude minutes % 60 }) else None

-- a time that a clock shows; a second that isn't written is 0
abbrev pub time_by : toml_time.Time → Option ClockOffset → Option ClockTime
time_by time offset =
    let second = unwrap_or time.second 0 in
    let nanosecond = unwrap_or time.nanosecond 0 in
    if is_clock_reading time.hour time.minute second nanosecond then Some (clock_time time.hour time.minute second nanosecond offset) else None

abbrev pub time_of : toml_time.Time → toml_offset.Offset → Option ClockTime
time_of time Z = time_by time None
time_of time (Custom minutes) = option_and_then (λ offset. time_by time (Some offset)) (offset_of minutes)

-- a date alone, or with a time and its offset
abbrev pub moment_by : CalendarDate → Option toml_time.Time → Option toml_offset.Offset → Option Moment
moment_by date None None = Some (record { date = date; time = None })
moment_by date (Some time) (Some offset) = option_map (λ clock. record { date = date; time = Some clock }) (time_of time offset)
moment_by date _ _ = None

abbrev pub moment_of : Datetime → Option Moment
moment_of datetime = option_and_then (λ date. moment_by date datetime.time datetime.offset) (option_and_then date_of datetime.date)

-- The event of a date or a time: a timestamp if YAML 1.1 has it, else a text, spelled as in TOML.
abbrev pub moment_event : WriterState → Datetime → Option Moment → Event
moment_event writer datetime (Some moment) = timestamp_event writer moment
moment_event writer datetime None = text_event writer (chars (datetime_text datetime))

abbrev pub datetime_event : WriterState → Datetime → Event
datetime_event writer datetime = moment_event writer datetime (moment_of datetime)
