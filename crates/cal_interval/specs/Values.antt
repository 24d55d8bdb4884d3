-- The value of an interval in text, or the first part that is out of range.
use Rattle.std.specs.Prelude.{◌≡◌, ◌⊎◌, ℕ, List, Option}
use Rattle.cal_time.specs.Date.{IsDate}
use Rattle.cal_time.specs.declared.error.ComponentRange.{ComponentRange}
use Rattle.cal_text.specs.declared.date_numbers.DateNumbers.{DateNumbers}
use Rattle.cal_text.specs.declared.plain.numbers.PlainNumbers.{PlainNumbers}
use Rattle.cal_text.specs.PlainForm.{IsPlainOf, IsPlainError}
use Rattle.cal_text.specs.Parsing.{IsOnDay, IsDateError}
use Rattle.cal_duration.specs.declared.error.DurationComponent.{DurationComponent}
use Rattle.cal_duration.specs.declared.numbers.Numbers.{Numbers}
use Rattle.cal_duration.specs.Values.{IsPeriodOf, IsPeriodError}
use Rattle.cal_interval.specs.declared.error.IntervalComponent.{IntervalComponent}
use Rattle.cal_interval.specs.declared.error.IntervalComponent.TheVariants.{End, Period}
use Rattle.cal_interval.specs.declared.date.interval.DateInterval.{DateInterval}
use Rattle.cal_interval.specs.declared.date.interval.DateInterval.TheVariants as value
use Rattle.cal_interval.specs.declared.date.numbers.DateIntervalNumbers.{DateIntervalNumbers}
use Rattle.cal_interval.specs.declared.date.numbers.DateIntervalNumbers.TheVariants as date
use Rattle.cal_interval.specs.declared.plain.interval.DateTimeInterval.{DateTimeInterval}
use Rattle.cal_interval.specs.declared.plain.interval.DateTimeInterval.TheVariants as plain_value
use Rattle.cal_interval.specs.declared.plain.numbers.DateTimeIntervalNumbers.{DateTimeIntervalNumbers}
use Rattle.cal_interval.specs.declared.plain.numbers.DateTimeIntervalNumbers.TheVariants as plain
use Rattle.cal_interval.specs.Form.{HasDateInterval, HasDateTimeInterval, HasRepeated}

-- ---- two parts, in the order of the text
-- Both parts have their values.
abbrev pub AreBoth : {F G V W : Type 0} → (F → V → Type 0) → (G → W → Type 0) → F → G → V → W → Type 0
AreBoth Of Of' f g v w = Of f v × Of' g w

-- The first part is out of range, or it has a value and the second part is out of range.
abbrev pub IsFirstError : {F G V : Type 0} → (F → V → Type 0) → (F → IntervalComponent → Type 0) → (G → IntervalComponent → Type 0) → F → G → IntervalComponent → Type 0
IsFirstError {F} {G} {V} Of IsError IsError' f g why = IsError f why ⊎ (((v : V) × Of f v) × IsError' g why)

-- ---- a date and a period
-- Day n has the numbers f.
abbrev pub IsDay : DateNumbers → ℕ → Type 0
IsDay f n = IsDate n × IsOnDay f n

-- A component of a date is out of range, or a part of a period.
abbrev pub IsDayError : DateNumbers → IntervalComponent → Type 0
IsDayError f why = (c : ComponentRange) × IsDateError f c × (why ≡ End c)

abbrev pub IsPartError : Numbers → IntervalComponent → Type 0
IsPartError m why = (c : DurationComponent) × IsPeriodError m c × (why ≡ Period c)

-- ---- an interval of dates
-- It has the numbers m.
abbrev pub IsDateIntervalOf : DateIntervalNumbers → DateInterval → Type 0
IsDateIntervalOf (date.StartAndEnd a b) (value.StartAndEnd s e) = AreBoth IsDay IsDay a b s e
IsDateIntervalOf (date.StartAndEnd a b) (value.StartAndPeriod s q) = ⊥
IsDateIntervalOf (date.StartAndEnd a b) (value.PeriodAndEnd q e) = ⊥
IsDateIntervalOf (date.StartAndPeriod a p) (value.StartAndEnd s e) = ⊥
IsDateIntervalOf (date.StartAndPeriod a p) (value.StartAndPeriod s q) = AreBoth IsDay IsPeriodOf a p s q
IsDateIntervalOf (date.StartAndPeriod a p) (value.PeriodAndEnd q e) = ⊥
IsDateIntervalOf (date.PeriodAndEnd p b) (value.StartAndEnd s e) = ⊥
IsDateIntervalOf (date.PeriodAndEnd p b) (value.StartAndPeriod s q) = ⊥
IsDateIntervalOf (date.PeriodAndEnd p b) (value.PeriodAndEnd q e) = AreBoth IsPeriodOf IsDay p b q e

-- Its first part that is out of range.
abbrev pub IsDateIntervalError : DateIntervalNumbers → IntervalComponent → Type 0
IsDateIntervalError (date.StartAndEnd a b) why = IsFirstError IsDay IsDayError IsDayError a b why
IsDateIntervalError (date.StartAndPeriod a p) why = IsFirstError IsDay IsDayError IsPartError a p why
IsDateIntervalError (date.PeriodAndEnd p b) why = IsFirstError IsPeriodOf IsPartError IsDayError p b why

-- The bytes are a text of this interval.
abbrev pub IsDateIntervalText : List ℕ → DateInterval → Type 0
IsDateIntervalText bytes v = (m : DateIntervalNumbers) × HasDateInterval bytes m × IsDateIntervalOf m v

-- ---- an interval of local date-times
-- A component of a date-time is out of range.
abbrev pub IsEndError : PlainNumbers → IntervalComponent → Type 0
IsEndError f why = (c : ComponentRange) × IsPlainError f c × (why ≡ End c)

-- It has the numbers m.
abbrev pub IsDateTimeIntervalOf : DateTimeIntervalNumbers → DateTimeInterval → Type 0
IsDateTimeIntervalOf (plain.StartAndEnd a b) (plain_value.StartAndEnd s e) = AreBoth IsPlainOf IsPlainOf a b s e
IsDateTimeIntervalOf (plain.StartAndEnd a b) (plain_value.StartAndPeriod s q) = ⊥
IsDateTimeIntervalOf (plain.StartAndEnd a b) (plain_value.PeriodAndEnd q e) = ⊥
IsDateTimeIntervalOf (plain.StartAndPeriod a p) (plain_value.StartAndEnd s e) = ⊥
IsDateTimeIntervalOf (plain.StartAndPeriod a p) (plain_value.StartAndPeriod s q) = AreBoth IsPlainOf IsPeriodOf a p s q
IsDateTimeIntervalOf (plain.StartAndPeriod a p) (plain_value.PeriodAndEnd q e) = ⊥
IsDateTimeIntervalOf (plain.PeriodAndEnd p b) (plain_value.StartAndEnd s e) = ⊥
IsDateTimeIntervalOf (plain.PeriodAndEnd p b) (plain_value.StartAndPeriod s q) = ⊥
IsDateTimeIntervalOf (plain.PeriodAndEnd p b) (plain_value.PeriodAndEnd q e) = AreBoth IsPeriodOf IsPlainOf p b q e

-- Its first part that is out of range.
abbrev pub IsDateTimeIntervalError : DateTimeIntervalNumbers → IntervalComponent → Type 0
IsDateTimeIntervalError (plain.StartAndEnd a b) why = IsFirstError IsPlainOf IsEndError IsEndError a b why
IsDateTimeIntervalError (plain.StartAndPeriod a p) why = IsFirstError IsPlainOf IsEndError IsPartError a p why
IsDateTimeIntervalError (plain.PeriodAndEnd p b) why = IsFirstError IsPeriodOf IsPartError IsEndError p b why

-- The bytes are a text of this interval.
abbrev pub IsDateTimeIntervalText : List ℕ → DateTimeInterval → Type 0
IsDateTimeIntervalText bytes v = (m : DateTimeIntervalNumbers) × HasDateTimeInterval bytes m × IsDateTimeIntervalOf m v

-- ---- repeated intervals
-- The same number of occurrences, and the value of the interval.
abbrev pub IsRepeatedOf : {M V : Type 0} → (M → V → Type 0) → Option ℕ × M → Option ℕ × V → Type 0
IsRepeatedOf IsIntervalOf m v = (v.0 ≡ m.0) × IsIntervalOf m.1 v.1

-- The error of the interval.
abbrev pub IsRepeatedError : {M : Type 0} → (M → IntervalComponent → Type 0) → Option ℕ × M → IntervalComponent → Type 0
IsRepeatedError IsIntervalError m why = IsIntervalError m.1 why

-- The bytes are a text of this repeated interval of dates, or of local date-times.
abbrev pub IsRepeatedDatesText : List ℕ → Option ℕ × DateInterval → Type 0
IsRepeatedDatesText bytes v = (m : Option ℕ × DateIntervalNumbers) × HasRepeated HasDateInterval bytes m × IsRepeatedOf IsDateIntervalOf m v

abbrev pub IsRepeatedDateTimesText : List ℕ → Option ℕ × DateTimeInterval → Type 0
IsRepeatedDateTimesText bytes v = (m : Option ℕ × DateTimeIntervalNumbers) × HasRepeated HasDateTimeInterval bytes m × IsRepeatedOf IsDateTimeIntervalOf m v
