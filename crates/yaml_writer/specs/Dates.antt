-- Dates, how they are written, and how the type repository of YAML 1.1 reads them (yaml.org/type/timestamp: the short form).
use Rattle.std.specs.Prelude.{◌≡◌, ℕ, Bool, true, false, Option, None, Some, List, [], ◌∷◌, ◌++◌, ◌==◌, ◌||◌, ◌&&◌, ◌+◌, ◌/◌, ◌%◌, not, nat_le, codes}
use Rattle.std.specs.Prelude.{if◌then◌else◌}
use Rattle.std.specs.List.{slice_split}
use Rattle.std.specs.Str.Parse.{digits_value}
use Rattle.yaml_base.specs.scalars.Analysis.{Charset, allowances, is_empty}
use Rattle.yaml_base.specs.scalars.Style.{chosen}
use Rattle.yaml_base.specs.Characters.{Text}
use Rattle.yaml_base.specs.Event.{plain}
use Rattle.yaml_base.specs.values.Resolved.{meant_timestamp}
use Rattle.yaml_base.specs.values.SchemaOf11.{is_hyphen, resolved_by_11}

-- ---- the calendar

-- a year, a month and a day
pub record CalendarDate : Type 0 where
  pub year : ℕ
  pub month : ℕ
  pub day : ℕ

-- the date of these parts
abbrev pub calendar_date : (year month day : ℕ) → CalendarDate
calendar_date year month day = record { year = year; month = month; day = day }

-- February has a day more
abbrev pub is_leap : ℕ → Bool
is_leap year = year % 4 == 0 && (not (year % 100 == 0) || year % 400 == 0)

-- the days of a month
abbrev pub days_in : (year month : ℕ) → ℕ
days_in year month =
    if month == 2 then (if is_leap year then 29 else 28)
    else (if month == 4 || month == 6 || month == 9 || month == 11 then 30 else 31)

-- a date of the Gregorian calendar, of the years 1 to 9999
abbrev pub is_calendar_date : CalendarDate → Bool
is_calendar_date date =
    (nat_le 1 date.year && nat_le date.year 9999)
    && ((nat_le 1 date.month && nat_le date.month 12) && (nat_le 1 date.day && nat_le date.day (days_in date.year date.month)))

-- ---- the text

-- a number's last decimal digit
abbrev pub last_digit : ℕ → ℕ
last_digit number = 0x30 + number % 10

-- its last two
abbrev pub two_digits : ℕ → Text
two_digits number = last_digit (number / 10) ∷ last_digit number ∷ []

-- its last four
abbrev pub four_digits : ℕ → Text
four_digits number = last_digit (number / 1000) ∷ last_digit (number / 100) ∷ two_digits number

-- four digits of the year, two of the month and two of the day, with hyphens between them
abbrev pub date_text : CalendarDate → Text
date_text date = four_digits date.year ++ codes "-" ++ two_digits date.month ++ codes "-" ++ two_digits date.day

-- ---- reading

-- the date whose parts these digits are
abbrev pub date_of_parts : List Text → Option CalendarDate
date_of_parts (year ∷ month ∷ day ∷ []) = Some (calendar_date (digits_value 10 year) (digits_value 10 month) (digits_value 10 day))
date_of_parts _ = None

-- the date that a text says
abbrev pub date_in : Text → Option CalendarDate
date_in text = date_of_parts (slice_split is_hyphen text)

-- every date is read as a timestamp of YAML 1.1, and as itself
abbrev pub DatesAreRead : Type 0
DatesAreRead =
    (date : CalendarDate) → is_calendar_date date ≡ true
    → (resolved_by_11 (date_text date) ≡ meant_timestamp) × (date_in (date_text date) ≡ Some date)

-- A date is written plain at every place outside canonical form, whichever characters are written as themselves, if its tag is written
-- or its flag for plain text is set.
abbrev pub WrittenDatesArePlain : Type 0
WrittenDatesArePlain =
    (date : CalendarDate) (charset : Charset) (tag_written plain_implicit quoted_implicit flow simple_key : Bool)
    → is_calendar_date date ≡ true → (tag_written || plain_implicit) ≡ true
    → let text = date_text date in
    (chosen (allowances charset text) plain (is_empty text) tag_written plain_implicit quoted_implicit flow simple_key false).style ≡ plain
