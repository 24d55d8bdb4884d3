-- The days of an interval of dates.
use Rattle.std.specs.Prelude.{◌≡◌, ◌≢◌, ℕ, nat_le, ℤ, pos, neg_ℤ, ◌*ℤ◌, Result, Ok, Err, if◌then◌else◌}
use Rattle.cal_time.specs.Date.{IsDate}
use Rattle.cal_schedule.specs.Period.{IsDaysLater, days_of, months_of}
use Rattle.cal_schedule.specs.Ranges.{Range, range}
use Rattle.cal_schedule.specs.declared.period_error.PeriodError.{PeriodError}
use Rattle.cal_schedule.specs.declared.period_error.PeriodError.TheVariants as period
use Rattle.cal_interval.specs.declared.error.IntervalError.{IntervalError}
use Rattle.cal_interval.specs.declared.error.IntervalError.TheVariants.{EndBeforeStart, HasDuration, OutOfRange}
use Rattle.cal_interval.specs.declared.date.interval.DateInterval.{DateInterval}
use Rattle.cal_interval.specs.declared.date.interval.DateInterval.TheVariants.{StartAndEnd, StartAndPeriod, PeriodAndEnd}

-- The days from s up to e, or the error that e is before s.
abbrev pub ordered : ℕ → ℕ → Result Range IntervalError
ordered s e = if nat_le s e then Ok (range s e) else Err EndBeforeStart

abbrev pub error_of : PeriodError → IntervalError
error_of period.HasDuration = HasDuration
error_of period.OutOfRange = OutOfRange

-- The result is `make m` for the day m that is some months and then some days after day n. It is
-- the error `OutOfRange` if there is none. A date has no clock, so an exact part is the error
-- `HasDuration`.
pub record LeadsTo (n : ℕ) (months days exact : ℤ) (make : ℕ → Result Range IntervalError) (r : Result Range IntervalError) : Type 0 where
  pub no_clock : exact ≢ pos 0 → r ≡ Err HasDuration
  pub value : exact ≡ pos 0 → (m : ℕ) → IsDate m → IsDaysLater n months days m → r ≡ make m
  pub none : exact ≡ pos 0 → ((m : ℕ) → IsDate m → ¬ IsDaysLater n months days m) → r ≡ Err OutOfRange

-- The result has the days of an interval. A period before an end is subtracted from it.
abbrev pub IsRangeOf : DateInterval → Result Range IntervalError → Type 0
IsRangeOf (StartAndEnd s e) r = r ≡ ordered s e
IsRangeOf (StartAndPeriod s q) r = LeadsTo s (months_of q) (days_of q) q.exact (λ e. ordered s e) r
IsRangeOf (PeriodAndEnd q e) r =
    LeadsTo e (neg_ℤ (pos 1) *ℤ months_of q) (neg_ℤ (pos 1) *ℤ days_of q) q.exact (λ s. ordered s e) r
