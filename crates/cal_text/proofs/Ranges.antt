-- The numbers of each day of the range fit their texts.
use Rattle.std.proofs.Common.{ℕ, ◌+◌, ◌-◌, ◌%◌, ◌<◌, ◌≤◌, refl, ℤ, arith}
use Rattle.std.proofs.lemmas.Bool.Decides.{nat_tests}
use Rattle.std.proofs.lemmas.Int.{ints}
use Rattle.cal_time.specs.Date.{year_at, month_at, day_of_month_at, ordinal_at, weekday_at, IsDate, IsYear}
use Rattle.cal_time.specs.Days.{month_at-range, day_of_month_at-range, year_at-range}
use Rattle.cal_time.specs.IsoWeekDate.{iso_year_at, iso_week_at}
use Rattle.cal_time.specs.Laws.{weekday_at-is}
use Rattle.cal_time.specs.Lengths.{days_in_month}
use Rattle.cal_time.proofs.Dates.{ordinal-most}
use Rattle.cal_time.proofs.IsoWeeks.{week_of_thursday, IsYear-iso_year_at}
use Rattle.cal_text.specs.DateForms.{IsPrintableYear}

written : (y : ℤ) → IsYear y → IsPrintableYear y
written y h = omega (arith, ints, h.0, h.1)

pub year_at-written : (n : ℕ) → IsDate n → IsPrintableYear (year_at n)
year_at-written n h = written (year_at n) (year_at-range n h)

pub iso_year_at-written : (n : ℕ) → IsDate n → IsPrintableYear (iso_year_at n)
iso_year_at-written n h = written (iso_year_at n) (IsYear-iso_year_at n h)

pub month_at-below : (n : ℕ) → month_at n < 100
month_at-below n = omega (arith, (month_at-range n).1)

days_in_month-most : (y : ℤ) (m : ℕ) → days_in_month y m ≤ 31
unfolding days_in_month
days_in_month-most y m = grind (arith, nat_tests)

pub day_of_month_at-below : (n : ℕ) → day_of_month_at n < 100
day_of_month_at-below n = omega (arith, (day_of_month_at-range n).1, days_in_month-most (year_at n) (month_at n))

pub ordinal_at-below : (n : ℕ) → ordinal_at n < 1000
ordinal_at-below n = omega (arith, ordinal-most n)

pub weekday_at-below : (n : ℕ) → weekday_at n < 7
weekday_at-below n = omega (arith, weekday_at-is n)

pub iso_week_at-below : (n : ℕ) → iso_week_at n < 100
iso_week_at-below n =
    let t = n - n % 7 + 3 in
    omega (arith, (week_of_thursday n (year_at t) (ordinal_at t) (refl, refl)).1, ordinal-most t)
