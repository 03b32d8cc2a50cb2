-- The view of a timestamp in contracts: its parts.
use Rattle.std.specs.Prelude.{ℕ, option_map}
use Rattle.yaml_writer.specs.SeenDates.{seen_date}
use Rattle.yaml_writer.specs.SeenNumbers.{is_minus}
use Rattle.yaml_writer.specs.Times.{ClockOffset, ClockTime, Moment, clock_time}
use Rattle.yaml_writer.specs.declared.numbers.Sign.{Sign}
use Rattle.yaml_writer.specs.declared.times.Offset.{Offset}
use Rattle.yaml_writer.specs.declared.times.Time.{Time}
use Rattle.yaml_writer.specs.declared.timestamps.Timestamp.{Timestamp}

-- the offset of these parts
abbrev pub clock_offset : Sign → (hours minutes : ℕ) → ClockOffset
clock_offset sign hours minutes = record { west = is_minus sign; hours = hours; minutes = minutes }

-- an offset
abbrev pub seen_offset : Offset → ClockOffset
seen_offset offset = clock_offset offset.sign offset.hours offset.minutes

-- a time of day
abbrev pub seen_time : Time → ClockTime
seen_time time = clock_time time.hour time.minute time.second time.nanosecond (option_map seen_offset time.offset)

-- a date, and a time of that day or none
abbrev pub seen_timestamp : Timestamp → Moment
seen_timestamp timestamp = record { date = seen_date timestamp.date; time = option_map seen_time timestamp.time }
