-- Repeated intervals (ISO 8601-1, 5.6), of local date-times.
use Rattle.std.specs.Prelude.{◌≡◌, ◌⊎◌, ℕ, ℤ, pos, ◌-ℤ◌, ◌<ℤ◌, Option}
use Rattle.cal_schedule.specs.Period.{Parts, parts}
use Rattle.cal_zoned.specs.Steps.{IsPositive}
use Rattle.cal_interval.specs.Repeats.{AreRepeated}
use Rattle.cal_interval.specs.declared.error.IntervalError.{IntervalError}
use Rattle.cal_interval.specs.declared.error.IntervalError.TheVariants.{EndBeforeStart, MissingStart, NotPositive}
use Rattle.cal_interval.specs.declared.plain.interval.DateTimeInterval.{DateTimeInterval}
use Rattle.cal_interval.specs.declared.plain.interval.DateTimeInterval.TheVariants.{StartAndEnd, StartAndPeriod, PeriodAndEnd}
use Rattle.cal_interval.specs.declared.plain.repeated.RepeatedDateTimes.{RepeatedDateTimes}

-- ---- a start and a period
-- The period isn't positive.
abbrev pub IsPeriodError : Parts → IntervalError → Type 0
IsPeriodError p e = (e ≡ NotPositive) × ¬ IsPositive p

-- ---- a start and an end
-- The period is the exact duration from the start to the end.
abbrev pub AreRepeatedExactly : ℤ → ℤ → Option ℕ → ℤ → Parts → Option ℕ → Type 0
AreRepeatedExactly start end count s p c =
    (start <ℤ end) × (s ≡ start) × (p ≡ parts (pos 0) (pos 0) (pos 0) (pos 0) (end -ℤ start)) × (c ≡ count)

abbrev pub IsEndsError : ℤ → ℤ → IntervalError → Type 0
IsEndsError start end e = ((e ≡ EndBeforeStart) × (end <ℤ start)) ⊎ ((e ≡ NotPositive) × (end ≡ start))

-- ---- an interval of local date-times
abbrev pub IsIntervalRepeated : DateTimeInterval → Option ℕ → RepeatedDateTimes → Type 0
IsIntervalRepeated (StartAndPeriod start period) count r = AreRepeated IsPositive start period count r.start r.period r.count
IsIntervalRepeated (StartAndEnd start end) count r = AreRepeatedExactly start end count r.start r.period r.count
IsIntervalRepeated (PeriodAndEnd period end) count r = ⊥

abbrev pub IsIntervalError : DateTimeInterval → IntervalError → Type 0
IsIntervalError (StartAndPeriod start period) e = IsPeriodError period e
IsIntervalError (StartAndEnd start end) e = IsEndsError start end e
IsIntervalError (PeriodAndEnd period end) e = e ≡ MissingStart
