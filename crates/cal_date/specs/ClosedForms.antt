-- Closed forms: quotients and remainders in place of a count. No other definition uses them. The
-- clauses that cite them say that they give the same results as the count. All divisions are of
-- natural numbers and round down.
use Rattle.std.specs.Prelude.{◌≡◌, ℕ, ◌+◌, ◌-◌, ◌*◌, ◌/◌, ◌%◌, ◌^◌, Bool, ◌&&◌, ◌||◌, ◌==◌, nat_lt, nat_le, if◌then◌else◌, ℤ, pos, ◌+ℤ◌, ◌-ℤ◌, unsigned_abs}
use Rattle.cal_units.specs.Lengths.{days_in_year}
use Rattle.cal_units.specs.Weeks.{first_weekday, weeks_in_year}
use Rattle.cal_date.specs.Date.{julian_day_at, HasOrdinalDate}
use Rattle.cal_date.specs.declared.kernel.JulianKernel.{JulianKernel}

-- ---- month and day of the month, from the ordinal and the kind of year
-- The ordinal of the last day of February.
abbrev pub february_end : Bool → ℕ
february_end leap = if leap then 60 else 59

-- The day of the part of the year, from 1. A year has two parts, up to the end of February and from
-- March on.
abbrev pub days_in_part : Bool → ℕ → ℕ
days_in_part leap o = if nat_le o (february_end leap) then o else o - february_end leap

-- The number of months before the part of the year, 0 or 2.
abbrev pub months_before_part : Bool → ℕ → ℕ
months_before_part leap o = if nat_le o (february_end leap) then 0 else 2

-- The month of a part, counted from 1, from the day of the part.
abbrev pub month_in_part : ℕ → ℕ
month_in_part days = (days * 268 + 8031) / 8192

-- The number of days of a part before one of its months.
abbrev pub days_before_month_in_part : ℕ → ℕ
days_before_month_in_part month = (month * 3917 - 3866) / 128

-- The month, from 1 to 12.
unfoldable pub month_of_ordinal : Bool → ℕ → ℕ
month_of_ordinal leap o = month_in_part (days_in_part leap o) + months_before_part leap o

-- The day of the month, from 1.
unfoldable pub day_of_ordinal : Bool → ℕ → ℕ
day_of_ordinal leap o = days_in_part leap o - days_before_month_in_part (month_in_part (days_in_part leap o))

-- ---- Julian day of a year and an ordinal
-- The number of years from -999999 to the year before y.
abbrev pub years_counted : ℤ → ℕ
years_counted y = unsigned_abs (y +ℤ pos 999999)

-- The Julian day of the ordinal o in the year that comes `a` years after -999999. Every fourth of
-- these years is a leap year, except three of four centuries.
abbrev pub julian_day_after : ℕ → ℕ → ℤ
julian_day_after a o = pos (1461 * a / 4 - a / 100 + a / 100 / 4 + o) -ℤ pos 363521075

-- The Julian day of the ordinal o of the year y.
unfoldable pub julian_day_of : ℤ → ℕ → ℤ
julian_day_of y o = julian_day_after (years_counted y) o

-- ---- kernel of a Julian day: five numbers that give its year, ordinal and leap mark
-- The day with the Julian day j, counted from 1 January -2379600. 400 divides this year.
abbrev pub shifted_day : ℤ → ℕ
shifted_day j = unsigned_abs (j +ℤ pos 867409993)

-- The number of centuries before the day n. A product replaces the division of four times the day
-- by 146097, the days of 400 years. The factor is a little less than 2 ^ 49 / 146097, so the
-- century is one too low at a multiple of 146097.
abbrev pub century_at : ℕ → ℕ
century_at n = n * 3853261555 / 2 ^ 15 / 2 ^ 32

-- The fraction of the next century that has passed before the day n, times 2 ^ 32.
abbrev pub century_part_at : ℕ → ℕ
century_part_at n = n * 3853261555 / 2 ^ 15 % 2 ^ 32

-- The day n in the Julian count, in which every fourth year is a leap year.
abbrev pub julian_at : ℕ → ℕ
julian_at n = n - century_at n / 4 + century_at n

-- The number of years before the day j of the Julian count. A product replaces the division of four
-- times the day by 1461, the days of four years. The factor is a little more than 2 ^ 42 / 1461.
abbrev pub years_at : ℕ → ℕ
years_at j = j * 3010298776 / 2 ^ 8 / 2 ^ 32

-- The fraction of the next year that has passed before the day j, times 2 ^ 32.
abbrev pub year_part_at : ℕ → ℕ
year_part_at j = j * 3010298776 / 2 ^ 8 % 2 ^ 32

-- The kernel of the day n, counted from 1 January -2379600.
abbrev pub kernel_of_shifted_day : ℕ → JulianKernel
kernel_of_shifted_day n = record {
  century = century_at n;
  century_part = century_part_at n;
  julian = julian_at n;
  years = years_at (julian_at n);
  year_part = year_part_at (julian_at n);
}

-- The kernel of the Julian day j.
unfoldable pub kernel_of : ℤ → JulianKernel
kernel_of j = kernel_of_shifted_day (shifted_day j)

-- Day n has this kernel.
abbrev pub HasKernel : JulianKernel → ℕ → Type 0
HasKernel k n = kernel_of (julian_day_at n) ≡ k

-- The year is as long as in the Julian count. Only the first year of a century that 4 doesn't
-- divide is shorter: its days make up the first 365 of 36525 parts of the century.
abbrev pub is_julian_year : JulianKernel → Bool
is_julian_year k = nat_lt 42920275 k.century_part || (k.century % 4 == 0)

-- The year that a kernel gives.
abbrev pub year_of_kernel : JulianKernel → ℤ
year_of_kernel k = pos k.years -ℤ pos 2379600

-- The ordinal that a kernel gives: the days of the year that have passed, plus 1. A year that is
-- shorter than in the Julian count begins a day late there, and needs no 1.
abbrev pub ordinal_of_kernel : JulianKernel → ℕ
ordinal_of_kernel k = k.year_part * 1461 / 2 ^ 34 + (if is_julian_year k then 1 else 0)

-- The year of a kernel is a leap year: 4 divides it, and it is as long as in the Julian count.
abbrev pub is_leap_by_kernel : JulianKernel → Bool
is_leap_by_kernel k = (k.years % 4 == 0) && is_julian_year k

-- ---- ISO week date of a year, an ordinal and a weekday, from 1 for Monday to 7 for Sunday
-- The week of the ordinal o, a day with the weekday w, counted within its calendar year: 0 before
-- week 1, and up to 53 at the end.
abbrev pub week_quotient : ℕ → ℕ → ℕ
week_quotient o w = (o + 10 - w) / 7

-- The ISO year of the day: week 0 is in the year before, and week 53 is in the next year if the
-- year has only 52.
unfoldable pub iso_year_of : ℤ → ℕ → ℕ → ℤ
iso_year_of y o w =
    if week_quotient o w == 0 then y -ℤ pos 1
    else (if (week_quotient o w == 53) && (weeks_in_year y == 52) then y +ℤ pos 1 else y)

-- The ISO week of the day: week 0 is the last week of the year before, and week 53 is week 1 of the
-- next year if the year has only 52.
unfoldable pub iso_week_of : ℤ → ℕ → ℕ → ℕ
iso_week_of y o w =
    if week_quotient o w == 0 then weeks_in_year (y -ℤ pos 1)
    else (if (week_quotient o w == 53) && (weeks_in_year y == 52) then 1 else week_quotient o w)

-- The day has the ISO year and the week of these forms.
unfoldable pub IsWeekByClosedForm : ℤ → ℕ → ℕ → ℤ → ℕ → Type 0
IsWeekByClosedForm y o w iso_year week = (iso_year ≡ iso_year_of y o w) × (week ≡ iso_week_of y o w)

-- ---- year and ordinal of an ISO week date
-- The weekday of 4 January, from 1 for Monday. This day is always in week 1.
abbrev pub january_4_weekday : ℤ → ℕ
january_4_weekday y = (first_weekday y + 3) % 7 + 1

-- The year of the day with the ISO year y, the week w and the weekday wd. The ordinal in the year y
-- is 7 * w + wd - january_4_weekday y - 3. If it is below 1, the day is in the year before. If it
-- is above the length of the year, the day is in the next year.
unfoldable pub year_of_week : ℤ → ℕ → ℕ → ℤ
year_of_week y w wd =
    if nat_le (7 * w + wd) (january_4_weekday y + 3) then y -ℤ pos 1
    else (if nat_lt (january_4_weekday y + 3 + days_in_year y) (7 * w + wd) then y +ℤ pos 1 else y)

-- The ordinal of this day in its own year.
unfoldable pub ordinal_of_week : ℤ → ℕ → ℕ → ℕ
ordinal_of_week y w wd =
    if nat_le (7 * w + wd) (january_4_weekday y + 3) then days_in_year (y -ℤ pos 1) + (7 * w + wd) - (january_4_weekday y + 3)
    else (if nat_lt (january_4_weekday y + 3 + days_in_year y) (7 * w + wd) then 7 * w + wd - (january_4_weekday y + 3) - days_in_year y
    else 7 * w + wd - (january_4_weekday y + 3))

-- Day n has the year and the ordinal of these forms.
unfoldable pub IsDayByClosedForm : ℤ → ℕ → ℕ → ℕ → Type 0
IsDayByClosedForm y w wd n = HasOrdinalDate (year_of_week y w wd) (ordinal_of_week y w wd) n
