-- The view of a date in contracts: its parts.
use Rattle.yaml_writer.specs.Dates.{CalendarDate, calendar_date}
use Rattle.yaml_writer.specs.declared.dates.Date.{Date}

-- the date of its parts
abbrev pub seen_date : Date → CalendarDate
seen_date date = calendar_date date.year date.month date.day
