-- Each number of the count has a calendar date, and each calendar date of the range has a number.
use Rattle.std.proofs.Common.{◌≡◌, ℕ, ◌+◌, ◌-◌, ◌<◌, ◌≤◌, sym, ap, ◌∙◌, subst, arith, ℤ, ◌≤ℤ◌}
use Rattle.std.proofs.lemmas.Bool.Decides.{nat_tests}
use Rattle.cal_units.specs.Lengths.{days_in_month}
use Rattle.cal_date.specs.CalendarDay.{calendar_day}
use Rattle.cal_date.specs.Date.{first_year, day_at, year_at, month_at, day_of_month_at, ordinal_at, IsYear, IsDate, IsOrdinal, IsDayOfMonth, HasCalendarDate, NoDate}
use Rattle.cal_date.specs.CountLaws.{days_of_months, days_before, in_months, index_in_year, year_start-days_before}
use Rattle.cal_date.specs.PackedDate.{ordinal_number}
use Rattle.cal_date.proofs.Dates.{stands, in_range}

-- The ordinal of a day of the month, i months into the year.
abbrev pub ordinal_in : ℤ → ℕ → ℕ → ℕ
ordinal_in y i d = days_of_months y i + d

-- Day n has this day of the month, i months into a year of the count.
pub record StandsInMonth (y : ℤ) (i d n : ℕ) : Type 0 where
  pub has : HasCalendarDate y (i + 1) d n
  pub year : first_year ≤ℤ y
  pub month : i < 12
  pub day : IsDayOfMonth y (i + 1) d
  pub ordinal_is : ordinal_at n ≡ ordinal_in y i d
  pub number_is : n ≡ ordinal_number y (ordinal_in y i d)

-- Each calendar date is in the count.
pub stands_at : (y : ℤ) (i d : ℕ) → first_year ≤ℤ y → i < 12 → IsDayOfMonth y (i + 1) d → StandsInMonth y i d (ordinal_number y (ordinal_in y i d))
stands_at y i d late low h =
    let here = in_months (days_before y) y i (d - 1) (year_start-days_before y late) low (omega (arith, h.0, h.1)) in
    let number : days_before y + (days_of_months y i + (d - 1)) ≡ ordinal_number y (ordinal_in y i d) = omega (arith, h.0) in
    let day : d - 1 + 1 ≡ d = omega (arith, h.0) in
    record {
      has = ap day_at (sym number) ∙ here.day_is ∙ ap (calendar_day y (i + 1)) day;
      year = late;
      month = low;
      day = h;
      ordinal_is = ap ordinal_at (sym number) ∙ here.ordinal_is ∙ omega (arith, h.0);
      number_is = omega arith;
    }

-- Each number has a calendar date.
pub record IsInMonthOf (n : ℕ) : Type 0 where
  pub months : ℕ
  pub stands : StandsInMonth (year_at n) months (day_of_month_at n) n
  pub month_is : month_at n ≡ months + 1

pub in_month_of : (n : ℕ) → IsInMonthOf n
in_month_of n =
    let at = stands n in
    let index = index_in_year (year_at n) (ordinal_at n - 1) (omega (arith, at.ordinal.0, at.ordinal.1)) in
    let found = stands_at (year_at n) index.months (index.days + 1) at.year index.months_below (omega arith, omega (arith, index.days_below)) in
    let number : ordinal_number (year_at n) (ordinal_in (year_at n) index.months (index.days + 1)) ≡ n = omega (arith, index.index_is, at.number_is) in
    let here : StandsInMonth (year_at n) index.months (index.days + 1) n = subst (StandsInMonth (year_at n) index.months (index.days + 1)) number found in
    let day : index.days + 1 ≡ day_of_month_at n = sym (ap (λ d. d.day) here.has) in
    record {
      months = index.months;
      stands = subst (λ d. StandsInMonth (year_at n) index.months d n) day here;
      month_is = ap (λ d. d.month) here.has;
    }

-- A day of the range has a year of the range, a day of its month, and therefore one number.
pub record IsCalendarInRange (y : ℤ) (i d n : ℕ) : Type 0 where
  pub year : IsYear y
  pub day : IsDayOfMonth y (i + 1) d
  pub number_is : n ≡ ordinal_number y (ordinal_in y i d)

pub calendar_in_range : (n : ℕ) (y : ℤ) (i d : ℕ) → IsDate n → HasCalendarDate y (i + 1) d n → IsCalendarInRange y i d n
calendar_in_range n y i d h has =
    let at = in_month_of n in
    let year : year_at n ≡ y = ap (λ day. day.year) has in
    let month : at.months ≡ i = omega (arith, at.month_is, ap (λ day. day.month) has) in
    let day : day_of_month_at n ≡ d = ap (λ day. day.day) has in
    let is : StandsInMonth y i d n = subst (λ k. StandsInMonth y k d n) month (subst (λ k. StandsInMonth y at.months k n) day (subst (λ z. StandsInMonth z at.months (day_of_month_at n) n) year at.stands)) in
    record {
      year = (in_range n y (ordinal_in y i d) h (year, is.ordinal_is)).year;
      day = is.day;
      number_is = is.number_is;
    }

-- Two different days of the range have different calendar dates.
pub calendar_date-one : (y : ℤ) (month d m n : ℕ) → IsDate m → IsDate n → HasCalendarDate y month d m → HasCalendarDate y month d n → m ≡ n
calendar_date-one y month d m n h k e f =
    let at = in_month_of n in
    let i = at.months in
    let here : HasCalendarDate (year_at n) (i + 1) (day_of_month_at n) n = ap (λ j. calendar_day (year_at n) j (day_of_month_at n)) at.month_is in
    omega (arith, (calendar_in_range m (year_at n) i (day_of_month_at n) h (e ∙ sym f ∙ here)).number_is, (calendar_in_range n (year_at n) i (day_of_month_at n) k here).number_is)

-- The year has the ordinal of a calendar date.
pub IsOrdinal-ordinal_in : (y : ℤ) (i d : ℕ) → first_year ≤ℤ y → i < 12 → IsDayOfMonth y (i + 1) d → IsOrdinal y (ordinal_in y i d)
IsOrdinal-ordinal_in y i d late low h =
    let at = stands_at y i d late low h in
    let n = ordinal_number y (ordinal_in y i d) in
    let year : year_at n ≡ y = ap (λ day. day.year) at.has in
    subst (λ o. IsOrdinal y o) at.ordinal_is (subst (λ z. IsOrdinal z (ordinal_at n)) year (stands n).ordinal)

-- No day of the range has a calendar date that is out of range.
pub NoDate-calendar_date : (y : ℤ) (i d : ℕ) → ¬ (IsYear y × IsDayOfMonth y (i + 1) d) → NoDate (HasCalendarDate y (i + 1) d)
NoDate-calendar_date y i d none n h has = let is = calendar_in_range n y i d h has in none (is.year, is.day)

-- A month has at most 31 days.
pub day_of_month-most : (n : ℕ) → day_of_month_at n ≤ 31
unfolding days_in_month
day_of_month-most n =
    let at = in_month_of n in
    let most : days_in_month (year_at n) (at.months + 1) ≤ 31 = grind (arith, nat_tests) in
    omega (arith, at.stands.day.1)

-- The month has the day of the month of day n.
pub day_of_month-range : (n : ℕ) → IsDayOfMonth (year_at n) (month_at n) (day_of_month_at n)
day_of_month-range n =
    let at = in_month_of n in
    subst (λ m. IsDayOfMonth (year_at n) m (day_of_month_at n)) (sym at.month_is) at.stands.day
