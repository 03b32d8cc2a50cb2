-- Dates worked by hand: the short form of yaml.org/type/timestamp, and texts that are no date.
use Rattle.yaml_writer.proofs.Common.{codes, Some, false, true, refl, ◌≡◌}
use Rattle.yaml_writer.specs.Dates.{calendar_date, date_in, date_text, is_calendar_date}

the_page : (date_text (calendar_date 2002 12 14) ≡ codes "2002-12-14") × (date_in (codes "2002-12-14") ≡ Some (calendar_date 2002 12 14))
the_page = (refl, refl)

zeros_lead : (date_text (calendar_date 7 1 4) ≡ codes "0007-01-04") × (date_in (codes "0007-01-04") ≡ Some (calendar_date 7 1 4))
zeros_lead = (refl, refl)

leap_years : (is_calendar_date (calendar_date 2000 2 29) ≡ true) × (is_calendar_date (calendar_date 2004 2 29) ≡ true)
    × (is_calendar_date (calendar_date 1900 2 29) ≡ false) × (is_calendar_date (calendar_date 2001 2 29) ≡ false)
leap_years = (refl, refl, refl, refl)

no_dates : (is_calendar_date (calendar_date 2001 13 1) ≡ false) × (is_calendar_date (calendar_date 2001 0 1) ≡ false)
    × (is_calendar_date (calendar_date 2001 2 30) ≡ false) × (is_calendar_date (calendar_date 2001 4 31) ≡ false)
    × (is_calendar_date (calendar_date 2001 12 0) ≡ false) × (is_calendar_date (calendar_date 0 1 1) ≡ false)
    × (is_calendar_date (calendar_date 10000 1 1) ≡ false)
no_dates = (refl, refl, refl, refl, refl, refl, refl)

last_days : (is_calendar_date (calendar_date 2001 12 31) ≡ true) × (is_calendar_date (calendar_date 9999 4 30) ≡ true)
last_days = (refl, refl)
