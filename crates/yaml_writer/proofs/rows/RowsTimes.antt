-- Times of day worked by hand: the forms of yaml.org/type/timestamp, and times that no clock shows.
use Rattle.yaml_writer.proofs.Common.{codes, Option, None, Some, false, true, refl, ◌≡◌}
use Rattle.yaml_writer.specs.Dates.{calendar_date}
use Rattle.yaml_writer.specs.Times.{ClockOffset, ClockTime, Moment, clock_time, is_clock_offset, is_clock_reading, moment_in, timestamp_text}

-- at a time of 14 December 2001
abbrev on_the_day : Option ClockTime → Moment
on_the_day time = record { date = calendar_date 2001 12 14; time = time }

-- five hours west of UTC
abbrev five_west : ClockOffset
five_west = record { west = true; hours = 5; minutes = 0 }

-- a tenth of a second after 21:59:43
abbrev late : Option ClockOffset → Moment
late offset = on_the_day (Some (clock_time 21 59 43 100000000 offset))

the_page : (moment_in (codes "2001-12-14T21:59:43.1Z") ≡ Some (late None)) × (moment_in (codes "2001-12-14t21:59:43.10-05:00") ≡ Some (late (Some five_west)))
    × (moment_in (codes "2001-12-14 21:59:43.10 -5") ≡ Some (late (Some five_west))) × (moment_in (codes "2001-12-14 21:59:43.10") ≡ Some (late None))
    × (moment_in (codes "2001-12-14") ≡ Some (on_the_day None))
the_page = (refl, refl, refl, refl, refl)

as_written : (timestamp_text (late None) ≡ codes "2001-12-14T21:59:43.100Z") × (timestamp_text (late (Some five_west)) ≡ codes "2001-12-14T21:59:43.100-05:00")
    × (timestamp_text (on_the_day (Some (clock_time 0 0 0 0 None))) ≡ codes "2001-12-14T00:00:00Z")
    × (timestamp_text (on_the_day (Some (clock_time 23 59 59 120034000 None))) ≡ codes "2001-12-14T23:59:59.120034Z")
    × (timestamp_text (on_the_day (Some (clock_time 23 59 59 5 None))) ≡ codes "2001-12-14T23:59:59.000000005Z")
    × (timestamp_text (on_the_day None) ≡ codes "2001-12-14")
as_written = (refl, refl, refl, refl, refl, refl)

no_times : (is_clock_reading 24 0 0 0 ≡ false) × (is_clock_reading 0 60 0 0 ≡ false) × (is_clock_reading 0 0 60 0 ≡ false)
    × (is_clock_reading 0 0 0 1000000000 ≡ false) × (is_clock_offset 24 0 ≡ false) × (is_clock_offset 0 60 ≡ false)
no_times = (refl, refl, refl, refl, refl, refl)
