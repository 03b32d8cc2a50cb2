-- Dates of `jiff`, which are those of the calendar of the years -9999 to 9999.
use Rattle.std.specs.Prelude.{ℕ, ℤ, pos, negsuc, Option, None, Some, if◌then◌else◌}
use Rattle.jiff_core.specs.declared.civil.date.Date as civil
use Rattle.yaml_writer.specs.Dates.{CalendarDate, calendar_date, is_calendar_date}

-- the date of these parts, of the years 1 to 9999
abbrev pub date_by : (year : ℤ) → (month day : ℕ) → Option CalendarDate
date_by (pos year) month day =
    let same = calendar_date year month day in
    if is_calendar_date same then Some same else None
date_by (negsuc year) month day = None

-- the same date
abbrev pub civil_date_of : civil.Date → Option CalendarDate
civil_date_of date = date_by date.year date.month date.day
