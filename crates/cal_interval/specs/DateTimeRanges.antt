-- Ranges of local date-times, and the range of an interval.
use Rattle.std.specs.Prelude.{◌≡◌, int_le, ℤ, pos, neg_ℤ, ◌≤ℤ◌, ◌<ℤ◌, Result, Ok, Err, if◌then◌else◌}
use Rattle.cal_datetime.specs.DateTime.{IsDateTime}
use Rattle.cal_zoned.specs.Period.{IsLater, IsNthLater}
use Rattle.cal_interval.specs.declared.error.IntervalError.{IntervalError}
use Rattle.cal_interval.specs.declared.error.IntervalError.TheVariants.{EndBeforeStart, OutOfRange}
use Rattle.cal_interval.specs.declared.plain.interval.DateTimeInterval.{DateTimeInterval}
use Rattle.cal_interval.specs.declared.plain.interval.DateTimeInterval.TheVariants.{StartAndEnd, StartAndPeriod, PeriodAndEnd}

-- The date-times from `start` on, before `end`.
pub record Range : Type 0 where
  pub start : ℤ
  pub end : ℤ

abbrev pub range : ℤ → ℤ → Range
range start end = record { start = start; end = end }

-- A date-time is in a range.
abbrev pub IsIn : Range → ℤ → Type 0
IsIn r z = (r.start ≤ℤ z) × (z <ℤ r.end)

-- The date-times from s up to e, or the error that e is before s.
abbrev pub ordered : ℤ → ℤ → Result Range IntervalError
ordered s e = if int_le s e then Ok (range s e) else Err EndBeforeStart

-- The result is `make z` for the date-time z of the range with this property, or the error
-- `OutOfRange` if there is none.
pub record LeadsTo (Is : ℤ → Type 0) (make : ℤ → Result Range IntervalError) (r : Result Range IntervalError) : Type 0 where
  pub value : (z : ℤ) → IsDateTime z → Is z → r ≡ make z
  pub none : ((z : ℤ) → IsDateTime z → ¬ Is z) → r ≡ Err OutOfRange

-- The result has the date-times of an interval. A period before an end is subtracted from it.
abbrev pub IsDateTimeRangeOf : DateTimeInterval → Result Range IntervalError → Type 0
IsDateTimeRangeOf (StartAndEnd s e) r = r ≡ ordered s e
IsDateTimeRangeOf (StartAndPeriod s q) r = LeadsTo (IsLater s q) (λ e. ordered s e) r
IsDateTimeRangeOf (PeriodAndEnd q e) r = LeadsTo (IsNthLater e q (neg_ℤ (pos 1))) (λ s. ordered s e) r
