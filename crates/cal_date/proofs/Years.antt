-- The number of days of the first years of the range, and the year of a day.
use Rattle.std.proofs.Common.{◌≡◌, ℕ, zero, suc, ◌+◌, ◌-◌, ◌<◌, ◌≤◌, sym, ap, ◌∙◌, arith, ℤ, pos, ◌+ℤ◌, ◌-ℤ◌, ◌≤ℤ◌, unsigned_abs, inl, inr}
use Rattle.std.proofs.lemmas.Bool.{cases_lt}
use Rattle.std.proofs.lemmas.Int.{ints}
use Rattle.cal_units.specs.Lengths.{days_in_year}
use Rattle.cal_date.specs.CalendarDay.{calendar_day}
use Rattle.cal_date.specs.Date.{first_year, last_year, last_day, day_at, IsYear}
use Rattle.cal_date.specs.CountLaws.{days_of_years, years_before, days_before, year_start, year_end, days_of_years-closed, days_of_years-suc}
use Rattle.cal_date.specs.DateLimits.{MAX-number}

-- Each number is in a year.
pub year_of : (k n : ℕ) → n < days_of_years k → (i : ℕ) × (j : ℕ) × (i < k) × (j < days_in_year (first_year +ℤ pos i)) × (n ≡ days_of_years i + j)
year_of zero n h = absurd (unfold days_of_years in omega arith)
year_of (suc k) n h =
    elim (cases_lt n (days_of_years k)) [
      | inl low ↦ let found = year_of k n low in (found.0, found.1, omega (arith, found.2), found.3, found.4)
      | inr high ↦ (k, n - days_of_years k, omega arith, omega (arith, days_of_years-suc k), omega arith)
    ]

-- The number of days before the next year.
pub days_before-next : (y : ℤ) → first_year ≤ℤ y → days_before (y +ℤ pos 1) ≡ days_before y + days_in_year y
days_before-next y h =
    let k = unsigned_abs (y -ℤ first_year) in
    let next : unsigned_abs ((y +ℤ pos 1) -ℤ first_year) ≡ suc k = omega (arith, ints) in
    let same : first_year +ℤ pos k ≡ y = omega (arith, ints) in
    ap days_of_years next ∙ days_of_years-suc k ∙ ap (λ z. days_of_years k + days_in_year z) same

-- A year is in the range if its first day is.
pub IsYear-days_before : (y : ℤ) → first_year ≤ℤ y → days_before y ≤ last_day → IsYear y
IsYear-days_before y h e = (h, omega (arith, ints, days_of_years-closed (unsigned_abs (y -ℤ first_year))))

-- All days of a year of the range are in the range.
pub days_before-IsYear : (y : ℤ) → IsYear y → days_before y + days_in_year y ≤ last_day + 1
days_before-IsYear y h =
    let k = unsigned_abs (y -ℤ first_year) in
    let next : unsigned_abs ((y +ℤ pos 1) -ℤ first_year) ≡ suc k = omega (arith, ints) in
    omega (arith, ints, days_before-next y h.0, ap days_of_years next, days_of_years-closed (suc k))

-- The last day of the range is the last day of its last year.
pub day_at-last_day : day_at last_day ≡ calendar_day last_year 12 31
day_at-last_day =
    let end = year_end (days_of_years (years_before last_year)) last_year (year_start (years_before last_year)) in
    let sums : days_of_years (years_before last_year) + 364 ≡ last_day = omega (arith, days_of_years-closed (years_before last_year)) in
    ap day_at (sym sums) ∙ end.day_is

pub ruleset end_of_range = (day_at-last_day, MAX-number)
