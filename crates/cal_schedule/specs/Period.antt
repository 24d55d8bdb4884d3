-- Periods: how much later something is by the calendar and by the clock (ISO 8601, duration by its
-- components).
use Rattle.std.specs.Prelude.{◌≡◌, ◌≢◌, ◌⊎◌, ℕ, ℤ, pos, ◌+ℤ◌, ◌*ℤ◌, ◌≤ℤ◌, Result, Ok, Err, IfOk}
use Rattle.cal_time.specs.Date.{IsDate}
use Rattle.cal_schedule.specs.declared.period_error.PeriodError.{PeriodError}
use Rattle.cal_schedule.specs.declared.period_error.PeriodError.TheVariants.{HasDuration, OutOfRange}
use Rattle.cal_schedule.specs.Months.{IsMonthsLater}

-- The parts of a period. The exact part is a number of nanoseconds.
pub record Parts : Type 0 where
  pub years : ℤ
  pub months : ℤ
  pub weeks : ℤ
  pub days : ℤ
  pub exact : ℤ

-- A period by its parts, and one of years, months and days.
abbrev pub parts : ℤ → ℤ → ℤ → ℤ → ℤ → Parts
parts years months weeks days exact = record { years = years; months = months; weeks = weeks; days = days; exact = exact }

abbrev pub date_period : ℤ → ℤ → ℤ → Parts
date_period years months days = parts years months (pos 0) days (pos 0)

-- No part is negative, and no part is positive.
abbrev pub IsNotNegative : Parts → Type 0
IsNotNegative p = (pos 0 ≤ℤ p.years) × (pos 0 ≤ℤ p.months) × (pos 0 ≤ℤ p.weeks) × (pos 0 ≤ℤ p.days) × (pos 0 ≤ℤ p.exact)

abbrev pub IsNotPositive : Parts → Type 0
IsNotPositive p = (p.years ≤ℤ pos 0) × (p.months ≤ℤ pos 0) × (p.weeks ≤ℤ pos 0) × (p.days ≤ℤ pos 0) × (p.exact ≤ℤ pos 0)

-- No part has another sign than another part.
abbrev pub IsOneSign : Parts → Type 0
IsOneSign p = IsNotNegative p ⊎ IsNotPositive p

-- The months of a period, with 12 for each year, and its days, with 7 for each week.
abbrev pub months_of : Parts → ℤ
months_of p = pos 12 *ℤ p.years +ℤ p.months

abbrev pub days_of : Parts → ℤ
days_of p = pos 7 *ℤ p.weeks +ℤ p.days

-- Months and days of one sign.
abbrev pub AgreeInSign : ℤ → ℤ → Type 0
AgreeInSign months days = ((pos 0 ≤ℤ months) × (pos 0 ≤ℤ days)) ⊎ ((months ≤ℤ pos 0) × (days ≤ℤ pos 0))

-- Day r is some months and then some days after day n.
pub record IsDaysLater (n : ℕ) (months days : ℤ) (r : ℕ) : Type 0 where
  pub middle : ℕ
  pub months_later : IsMonthsLater n months middle
  pub days_later : pos r ≡ pos middle +ℤ days

-- The result is the day of the range that is some months and then some days after day n, or the
-- error `OutOfRange` if there is none. A date has no clock, so an exact part is the error
-- `HasDuration`.
pub record IsDateAfter (n : ℕ) (months days exact : ℤ) (r : Result ℕ PeriodError) : Type 0 where
  pub no_clock : exact ≢ pos 0 → r ≡ Err HasDuration
  pub value : exact ≡ pos 0 → (m : ℕ) → IsDate m → IsDaysLater n months days m → r ≡ Ok m
  pub none : exact ≡ pos 0 → ((m : ℕ) → IsDate m → ¬ IsDaysLater n months days m) → r ≡ Err OutOfRange
  pub is : IfOk r (λ m. (exact ≡ pos 0) × IsDate m × IsDaysLater n months days m)
