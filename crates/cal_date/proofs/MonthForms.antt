-- The closed forms of the month and the day of the month equal the count.
use Rattle.std.proofs.Common.{◌≡◌, ℕ, ◌+◌, ◌<◌, ◌∙◌, sym, ap, arith, ℤ}
use Rattle.std.proofs.lemmas.Bool.Decides.{nat_tests}
use Rattle.cal_units.specs.Lengths.{is_leap_year, days_in_month}
use Rattle.cal_date.specs.Date.{year_at, month_at, day_of_month_at, ordinal_at, IsDayOfMonth}
use Rattle.cal_date.specs.CountLaws.{days_of_months}
use Rattle.cal_date.specs.ClosedForms.{month_of_ordinal, day_of_ordinal}
use Rattle.cal_date.proofs.Calendar.{ordinal_in, in_month_of}
use Rattle.cal_date.proofs.Months.{each_month}

-- The closed forms at the ordinal of a day, i months and d days into its year.
record IsClosed (y : ℤ) (i d : ℕ) : Type 0 where
  month_is : month_of_ordinal (is_leap_year y) (ordinal_in y i d) ≡ i + 1
  day_is : day_of_ordinal (is_leap_year y) (ordinal_in y i d) ≡ d

closed : (y : ℤ) (i d : ℕ) → i < 12 → IsDayOfMonth y (i + 1) d → IsClosed y i d
unfolding month_of_ordinal day_of_ordinal days_of_months days_in_month
closed y i d low =
    each_month (λ m. IsDayOfMonth y (m + 1) d → IsClosed y m d)
    (λ h. record { month_is = grind (arith, nat_tests); day_is = grind (arith, nat_tests) })
    (λ h. record { month_is = grind (arith, nat_tests); day_is = grind (arith, nat_tests) })
    (λ h. record { month_is = grind (arith, nat_tests); day_is = grind (arith, nat_tests) })
    (λ h. record { month_is = grind (arith, nat_tests); day_is = grind (arith, nat_tests) })
    (λ h. record { month_is = grind (arith, nat_tests); day_is = grind (arith, nat_tests) })
    (λ h. record { month_is = grind (arith, nat_tests); day_is = grind (arith, nat_tests) })
    (λ h. record { month_is = grind (arith, nat_tests); day_is = grind (arith, nat_tests) })
    (λ h. record { month_is = grind (arith, nat_tests); day_is = grind (arith, nat_tests) })
    (λ h. record { month_is = grind (arith, nat_tests); day_is = grind (arith, nat_tests) })
    (λ h. record { month_is = grind (arith, nat_tests); day_is = grind (arith, nat_tests) })
    (λ h. record { month_is = grind (arith, nat_tests); day_is = grind (arith, nat_tests) })
    (λ h. record { month_is = grind (arith, nat_tests); day_is = grind (arith, nat_tests) })
    i low

-- The closed forms give the month and the day of each day.
pub month_of_ordinal-is : (n : ℕ) → month_of_ordinal (is_leap_year (year_at n)) (ordinal_at n) ≡ month_at n
month_of_ordinal-is n =
    let at = in_month_of n in
    let is = closed (year_at n) at.months (day_of_month_at n) at.stands.month at.stands.day in
    ap (month_of_ordinal (is_leap_year (year_at n))) at.stands.ordinal_is ∙ is.month_is ∙ sym at.month_is

pub day_of_ordinal-is : (n : ℕ) → day_of_ordinal (is_leap_year (year_at n)) (ordinal_at n) ≡ day_of_month_at n
day_of_ordinal-is n =
    let at = in_month_of n in
    let is = closed (year_at n) at.months (day_of_month_at n) at.stands.month at.stands.day in
    ap (day_of_ordinal (is_leap_year (year_at n))) at.stands.ordinal_is ∙ is.day_is

pub ruleset closed_months = (month_of_ordinal-is, day_of_ordinal-is, nat_tests)
