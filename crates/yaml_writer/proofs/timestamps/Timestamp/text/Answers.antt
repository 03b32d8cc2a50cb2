use Rattle.yaml_writer.proofs.Common.{Option, None, Some, refl, true, chars, option_map, ◌≡◌, ap, ◌∙◌, and_from, Text}
use Rattle.yaml_writer.proofs.TimeLemmas.{timestamp_chars, timestamps_read}
use Rattle.yaml_writer.specs.{Dates.is_calendar_date, SeenDates.seen_date, declared.times.Offset.Offset, declared.times.Time.Time}
use Rattle.yaml_writer.specs.{declared.timestamps.Timestamp.Timestamp}
use Rattle.yaml_writer.specs.SeenTimes.{seen_offset, seen_time, seen_timestamp}
use Rattle.yaml_writer.specs.Times.{is_clock_reading, is_moment, is_time_or_none, is_zone_offset, moment_in}
use Rattle.yaml_writer.proofs.timestamps.Timestamp.text.Goals as goal

offset_is : (offset : Option Offset) → is_zone_offset (option_map seen_offset offset) ≡ true
offset_is None = refl
offset_is (Some offset) = offset.is_offset

time_is : (time : Option Time) → is_time_or_none (option_map seen_time time) ≡ true
time_is None = refl
time_is (Some time) =
    and_from (is_clock_reading time.hour time.minute time.second time.nanosecond) (is_zone_offset (option_map seen_offset time.offset)) time.is_time
    (offset_is time.offset)

timestamp_is : (timestamp : Timestamp) → is_moment (seen_timestamp timestamp) ≡ true
timestamp_is timestamp =
    and_from (is_calendar_date (seen_date timestamp.date)) (is_time_or_none (option_map seen_time timestamp.time)) timestamp.date.is_date
    (time_is timestamp.time)

pub returns-clause-text : goal.returns-clause-text
returns-clause-text g c = ap chars c.in_ok-text.ensures ∙ timestamp_chars (seen_timestamp c.args.self.now) (timestamp_is c.args.self.now)

pub returns-clause-reads : goal.returns-clause-reads
returns-clause-reads g c =
    let moment = seen_timestamp c.args.self.now in
    let is = timestamp_is c.args.self.now in
    ap (λ (bytes : Text). moment_in (chars bytes)) c.in_ok-text.ensures ∙ ap moment_in (timestamp_chars moment is) ∙ (timestamps_read moment is).1
