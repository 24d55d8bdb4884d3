-- Repeated intervals (ISO 8601-1, 5.6), of dates.
use Rattle.std.specs.Prelude.{◌≡◌, ◌≢◌, ◌⊎◌, ℕ, ◌-◌, ◌<◌, ◌≤◌, ℤ, pos, ◌≤ℤ◌, ◌<ℤ◌, Option, Some, None}
use Rattle.cal_schedule.specs.Period.{Parts, parts}
use Rattle.cal_schedule.specs.Steps.{IsPositive, IsRepeated}
use Rattle.cal_interval.specs.declared.error.IntervalError.{IntervalError}
use Rattle.cal_interval.specs.declared.error.IntervalError.TheVariants.{EndBeforeStart, HasDuration, MissingStart, NotPositive, CountOutOfRange}
use Rattle.cal_interval.specs.declared.date.interval.DateInterval.{DateInterval}
use Rattle.cal_interval.specs.declared.date.interval.DateInterval.TheVariants.{StartAndEnd, StartAndPeriod, PeriodAndEnd}
use Rattle.cal_interval.specs.declared.date.repeated.RepeatedDates.{RepeatedDates}

-- ---- the number of occurrences
-- There is no number, or it is from 1 to 4294967295.
abbrev pub IsCountInRange : Option ℕ → Type 0
IsCountInRange None = Unit {0}
IsCountInRange (Some n) = (1 ≤ n) × (n ≤ 4294967295)

-- Number n, from 0 on, is the number of an occurrence.
abbrev pub IsOccurrence : Option ℕ → ℤ → Type 0
IsOccurrence None n = pos 0 ≤ℤ n
IsOccurrence (Some count) n = (pos 0 ≤ℤ n) × (n <ℤ pos count)

-- ---- a number of occurrences and an interval
-- The number is in range, and the interval is repeated.
abbrev pub IsRepeatOf : {I R : Type 0} → (I → Option ℕ → R → Type 0) → Option ℕ → I → R → Type 0
IsRepeatOf IsRepetition count i r = IsCountInRange count × IsRepetition i count r

-- The number is out of range, or the interval can't be repeated.
abbrev pub IsRepeatError : {I : Type 0} → (I → IntervalError → Type 0) → Option ℕ → I → IntervalError → Type 0
IsRepeatError IsError count i e = ((e ≡ CountOutOfRange) × ¬ IsCountInRange count) ⊎ (IsCountInRange count × IsError i e)

-- ---- a start and a period
-- The repetition has this start, this period and this number of occurrences, and the period can be
-- repeated.
abbrev pub AreRepeated : {S : Type 0} → (Parts → Type 0) → S → Parts → Option ℕ → S → Parts → Option ℕ → Type 0
AreRepeated CanRepeat start period count s p c = CanRepeat period × (s ≡ start) × (p ≡ period) × (c ≡ count)

-- The period has an exact part, or it is not positive.
abbrev pub IsPeriodError : Parts → IntervalError → Type 0
IsPeriodError p e = ((e ≡ HasDuration) × (p.exact ≢ pos 0)) ⊎ ((e ≡ NotPositive) × (p.exact ≡ pos 0) × ¬ IsPositive p)

-- ---- a start and an end
-- The period is the number of days from the start to the end.
abbrev pub AreRepeatedDays : ℕ → ℕ → Option ℕ → ℕ → Parts → Option ℕ → Type 0
AreRepeatedDays start end count s p c =
    (start < end) × (s ≡ start) × (p ≡ parts (pos 0) (pos 0) (pos 0) (pos (end - start)) (pos 0)) × (c ≡ count)

abbrev pub IsDaysError : ℕ → ℕ → IntervalError → Type 0
IsDaysError start end e = ((e ≡ EndBeforeStart) × (end < start)) ⊎ ((e ≡ NotPositive) × (end ≡ start))

-- ---- an interval of dates
abbrev pub IsIntervalRepeated : DateInterval → Option ℕ → RepeatedDates → Type 0
IsIntervalRepeated (StartAndPeriod start period) count r = AreRepeated IsRepeated start period count r.start r.period r.count
IsIntervalRepeated (StartAndEnd start end) count r = AreRepeatedDays start end count r.start r.period r.count
IsIntervalRepeated (PeriodAndEnd period end) count r = ⊥

abbrev pub IsIntervalError : DateInterval → IntervalError → Type 0
IsIntervalError (StartAndPeriod start period) e = IsPeriodError period e
IsIntervalError (StartAndEnd start end) e = IsDaysError start end e
IsIntervalError (PeriodAndEnd period end) e = e ≡ MissingStart
