-- The fraction of a year between two days, by the conventions of interest (2006 ISDA Definitions).
-- It is a number of days over the days of a year.
use Rattle.std.specs.Prelude.{ℕ, ◌==◌, ◌&&◌, Bool, not, if◌then◌else◌, nat_lt, min, ℤ, pos, ◌+ℤ◌, ◌-ℤ◌, ◌*ℤ◌}
use Rattle.cal_time.specs.Date.{year_at, month_at, day_of_month_at}
use Rattle.cal_time.specs.IsoWeekDate.{count_before}
use Rattle.cal_time.specs.Lengths.{is_leap_year}
use Rattle.cal_schedule.specs.declared.year_fraction.DayCount.{DayCount}
use Rattle.cal_schedule.specs.declared.year_fraction.DayCount.TheVariants.{Actual360, Actual365Fixed, Thirty360, ThirtyE360, ActualActual}

-- The days from day n to the day before day t, negative if t comes first.
abbrev pub actual_days : ℕ → ℕ → ℤ
actual_days n t = pos t -ℤ pos n

-- Day n is in a leap year.
abbrev pub in_leap_year : ℕ → Bool
in_leap_year n = is_leap_year (year_at n)

-- Day n is in a common year.
abbrev pub in_common_year : ℕ → Bool
in_common_year n = not (is_leap_year (year_at n))

-- The days from day n to the day before day t that pass a test, counted one day at a time.
abbrev pub count_between : (ℕ → Bool) → ℕ → ℕ → ℤ
count_between test n t = pos (count_before test t) -ℤ pos (count_before test n)

-- The days between two days if each month has 30 days. d1 and d2 are their days of the month, by
-- the rule of the convention.
abbrev pub thirty_days : ℕ → ℕ → ℕ → ℕ → ℤ
thirty_days n t d1 d2 = (year_at t -ℤ year_at n) *ℤ pos 360 +ℤ (pos (month_at t) -ℤ pos (month_at n)) *ℤ pos 30 +ℤ pos d2 -ℤ pos d1

-- The day of the month of the last day in the bond basis: 30 in place of 31 if the day of the month
-- of the first day is after the 29th.
abbrev pub bond_end : ℕ → ℕ → ℕ
bond_end d1 d2 = if (d2 == 31) && nat_lt 29 d1 then 30 else d2

-- The numerator is the number of days by the convention. For actual/actual it is the days in leap
-- years times 365, plus the days in common years times 366.
abbrev pub day_count_numerator : DayCount → ℕ → ℕ → ℤ
day_count_numerator Actual360 n t = actual_days n t
day_count_numerator Actual365Fixed n t = actual_days n t
day_count_numerator Thirty360 n t = thirty_days n t (min (day_of_month_at n) 30) (bond_end (day_of_month_at n) (day_of_month_at t))
day_count_numerator ThirtyE360 n t = thirty_days n t (min (day_of_month_at n) 30) (min (day_of_month_at t) 30)
day_count_numerator ActualActual n t = count_between in_leap_year n t *ℤ pos 365 +ℤ count_between in_common_year n t *ℤ pos 366

-- The denominator is the number of days in a year by the convention. For actual/actual it is 366
-- times 365.
abbrev pub day_count_denominator : DayCount → ℕ
day_count_denominator Actual360 = 360
day_count_denominator Actual365Fixed = 365
day_count_denominator Thirty360 = 360
day_count_denominator ThirtyE360 = 360
day_count_denominator ActualActual = 133590
