-- The number of months from one day to another that doesn't pass it.
use Rattle.std.specs.Prelude.{◌≡◌, ℕ, ◌≤◌, ℤ, pos, ◌+ℤ◌, ◌≤ℤ◌}
use Rattle.cal_time.specs.Date.{IsDate}
use Rattle.cal_schedule.specs.Months.{IsMonthsLater}
use Rattle.cal_schedule.specs.Period.{date_period, months_of, Parts}

-- The day `months` months after day n is in the range and not after day t.
pub record IsMonthsUpTo (n t : ℕ) (months : ℤ) : Type 0 where
  pub day : ℕ
  pub date : IsDate day
  pub later : IsMonthsLater n months day
  pub in_time : day ≤ t

-- The day `months` months after day n is in the range and not before day t.
pub record IsMonthsBackTo (n t : ℕ) (months : ℤ) : Type 0 where
  pub day : ℕ
  pub date : IsDate day
  pub later : IsMonthsLater n months day
  pub in_time : t ≤ day

-- z is the maximum number with a property.
pub record IsGreatest (Holds : ℤ → Type 0) (z : ℤ) : Type 0 where
  pub holds : Holds z
  pub greatest : (k : ℤ) → Holds k → k ≤ℤ z

-- z is the minimum number with a property.
pub record IsLeast (Holds : ℤ → Type 0) (z : ℤ) : Type 0 where
  pub holds : Holds z
  pub least : (k : ℤ) → Holds k → z ≤ℤ k

-- Day t is a period of years, months and days after day n: the years and months at once, and then
-- the days.
pub record IsPeriodUntil (n t : ℕ) (p : Parts) : Type 0 where
  pub day : ℕ
  pub date : IsDate day
  pub later : IsMonthsLater n (months_of p) day
  pub days : pos t ≡ pos day +ℤ p.days
  pub only : p ≡ date_period p.years p.months p.days
