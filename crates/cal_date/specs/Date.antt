-- A date is its number in the count of days, which goes on day by day from the first day of the
-- range.
use Rattle.std.specs.Prelude.{◌≡◌, ℕ, zero, suc, ◌+◌, ◌%◌, ◌≤◌, if◌then◌else◌, ℤ, pos, neg_ℤ, ◌+ℤ◌, ◌≤ℤ◌}
use Rattle.cal_units.specs.Lengths.{days_in_year, days_in_month}
use Rattle.cal_date.specs.CalendarDay.{CalendarDay, calendar_day, day_after, is_first_of_january}

-- The first year of the range.
abbrev pub first_year : ℤ
first_year = neg_ℤ (pos 999999)

-- The last year of the range.
abbrev pub last_year : ℤ
last_year = pos 999999

-- The Julian day of day 0, 1 January of the first year.
abbrev pub first_julian_day : ℤ
first_julian_day = neg_ℤ (pos 363521074)

-- The number of the last day of the range. The law day_at-last_day says that it is 31 December of
-- the last year.
abbrev pub last_day : ℕ
last_day = 730484633

-- y is a year of the range.
abbrev pub IsYear : ℤ → Type 0
IsYear y = (first_year ≤ℤ y) × (y ≤ℤ last_year)

-- n is the number of a day of the range.
abbrev pub IsDate : ℕ → Type 0
IsDate n = n ≤ last_day

-- Day n: day 0 is the first day of the range, and day n + 1 is the day after day n.
unfoldable pub day_at : ℕ → CalendarDay
day_at zero = calendar_day first_year 1 1
day_at (suc n) = day_after (day_at n)

-- The year of day n.
abbrev pub year_at : ℕ → ℤ
year_at n = (day_at n).year

-- The month of day n, from 1 to 12.
abbrev pub month_at : ℕ → ℕ
month_at n = (day_at n).month

-- The day of the month of day n, from 1.
abbrev pub day_of_month_at : ℕ → ℕ
day_of_month_at n = (day_at n).day

-- The ordinal of day n: 1 on each 1 January, and one more from day to day.
unfoldable pub ordinal_at : ℕ → ℕ
ordinal_at zero = 1
ordinal_at (suc n) = if is_first_of_january (day_at (suc n)) then 1 else ordinal_at n + 1

-- The index of the weekday of day n, from 0 for Monday to 6 for Sunday. Day 0 is a Monday.
unfoldable pub weekday_at : ℕ → ℕ
weekday_at zero = 0
weekday_at (suc n) = (weekday_at n + 1) % 7

-- The Julian day of day n: the Julian day of day 0 plus n.
abbrev pub julian_day_at : ℕ → ℤ
julian_day_at n = first_julian_day +ℤ pos n

-- The month m of the year y has the day d.
abbrev pub IsDayOfMonth : ℤ → ℕ → ℕ → Type 0
IsDayOfMonth y m d = (1 ≤ d) × (d ≤ days_in_month y m)

-- The year y has the ordinal o.
abbrev pub IsOrdinal : ℤ → ℕ → Type 0
IsOrdinal y o = (1 ≤ o) × (o ≤ days_in_year y)

-- Day n has the calendar date (y, m, d) if they are its year, its month and its day of the month.
abbrev pub HasCalendarDate : ℤ → ℕ → ℕ → ℕ → Type 0
HasCalendarDate y m d n = day_at n ≡ calendar_day y m d

-- Day n has the ordinal date (y, o) if they are its year and its ordinal.
abbrev pub HasOrdinalDate : ℤ → ℕ → ℕ → Type 0
HasOrdinalDate y o n = (year_at n ≡ y) × (ordinal_at n ≡ o)

-- Day n has the Julian day j.
abbrev pub HasJulianDay : ℤ → ℕ → Type 0
HasJulianDay j n = julian_day_at n ≡ j

-- No day of the range has the property.
abbrev pub NoDate : (ℕ → Type 0) → Type 0
NoDate Has = (n : ℕ) → IsDate n → ¬ (Has n)
