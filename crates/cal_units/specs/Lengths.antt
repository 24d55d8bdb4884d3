-- Lengths of years and months of the proleptic Gregorian calendar, for every whole year. ISO 8601:
-- year 0 comes before year 1.
use Rattle.std.specs.Prelude.{ℕ, ◌%◌, Bool, not, ◌&&◌, ◌||◌, ◌==◌, if◌then◌else◌, ℤ, unsigned_abs}

-- A year is a leap year if 4 divides it, and 100 doesn't or 400 does.
abbrev pub is_leap_year : ℤ → Bool
is_leap_year y = (unsigned_abs y % 4 == 0) && (not (unsigned_abs y % 100 == 0) || (unsigned_abs y % 400 == 0))

-- A leap year has 366 days, any other year 365.
abbrev pub days_in_year : ℤ → ℕ
days_in_year y = if is_leap_year y then 366 else 365

-- The number of days of a month, numbered from 1 for January: 30 for April, June, September and
-- November, 28 for February, or 29 in a leap year, and 31 for the other months.
unfoldable pub days_in_month : ℤ → ℕ → ℕ
days_in_month y m =
    if m == 2 then (if is_leap_year y then 29 else 28)
    else (if (m == 4) || (m == 6) || (m == 9) || (m == 11) then 30 else 31)
