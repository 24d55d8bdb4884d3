-- The recurrences that `parse` can return. Each is parsed again from its own text.
use Rattle.std.specs.Prelude.{◌≡◌, ⊤, false, Option, Some, None, ℕ, ◌≤◌, ◌<◌, ◌^◌, ℤ, pos, ◌≤ℤ◌, unsigned_abs}
use Rattle.std.specs.List.{All}
use Rattle.cal_time.specs.Date.{year_at, IsDate}
use Rattle.cal_time.specs.Time.{nanosecond_of}
use Rattle.cal_datetime.specs.DateTime.{IsDateTime, date_at, time_at}
use Rattle.cal_schedule.specs.declared.rule.rule.ByDay.{ByDay}
use Rattle.cal_schedule.specs.declared.rule.rule.ByDay.TheVariants.{Every, Nth}
use Rattle.cal_schedule.specs.declared.rule.rule.Frequency.{Frequency}
use Rattle.cal_schedule.specs.declared.rule.rule.Frequency.TheVariants.{Daily}
use Rattle.cal_recurrence.specs.Days.{excluded, ranks_alone}
use Rattle.cal_recurrence.specs.declared.clock_unit.ClockUnit.{ClockUnit}
use Rattle.cal_recurrence.specs.declared.date_or_time.DateOrTime.{DateOrTime}
use Rattle.cal_recurrence.specs.declared.date_or_time.DateOrTime.TheVariants.{Date, Local, Utc}
use Rattle.cal_recurrence.specs.declared.recurrence.Recurrence.{Recurrence}
use Rattle.cal_recurrence.specs.declared.recurrence.RuleEnd.{RuleEnd}
use Rattle.cal_recurrence.specs.declared.recurrence.RuleEnd.TheVariants.{Never, Until, Count}

-- A COUNT or an INTERVAL is from 1 to 2^32 - 1.
abbrev pub IsCount : ℕ → Type 0
IsCount n = (1 ≤ n) × (n < 2 ^ 32)

-- An index is from 1 to `most` from the start, or from -1 to -`most` from the end.
abbrev pub IsIndex : ℕ → ℤ → Type 0
IsIndex most z = (1 ≤ unsigned_abs z) × (unsigned_abs z ≤ most)

-- A day of the month is from 1 to 31, or from -1 to -31.
abbrev pub IsMonthDay : ℤ → Type 0
IsMonthDay day = IsIndex 31 day

-- A week is from 1 to 53, or from -1 to -53.
abbrev pub IsWeek : ℤ → Type 0
IsWeek week = IsIndex 53 week

-- A position or a day of the year is from 1 to 366, or from -1 to -366.
abbrev pub IsPosition : ℤ → Type 0
IsPosition position = IsIndex 366 position

-- The number of a weekday is from 1 to 53, or from -1 to -53, if it has one.
abbrev pub IsByDay : ByDay → Type 0
IsByDay (Every weekday) = ⊤
IsByDay (Nth index weekday) = IsIndex 53 index

-- An hour is at most 23.
abbrev pub IsHour : ℕ → Type 0
IsHour hour = hour ≤ 23

-- A minute is at most 59.
abbrev pub IsMinute : ℕ → Type 0
IsMinute minute = minute ≤ 59

-- A second is at most 60, which is a leap second.
abbrev pub IsSecond : ℕ → Type 0
IsSecond second = second ≤ 60

-- A day in the years 0 to 9999, which have four digits.
abbrev pub HasFourDigits : ℕ → Type 0
HasFourDigits n = IsDate n × (pos 0 ≤ℤ year_at n) × (year_at n ≤ℤ pos 9999)

-- A reading on such a day, without a fraction of a second.
abbrev pub IsWhole : ℤ → Type 0
IsWhole z = IsDateTime z × HasFourDigits (date_at z) × (nanosecond_of (time_at z) ≡ 0)

-- A day or a reading that a text can have.
abbrev pub IsDateOrTime : DateOrTime → Type 0
IsDateOrTime (Date n) = HasFourDigits n
IsDateOrTime (Local z) = IsWhole z
IsDateOrTime (Utc z) = IsWhole z

-- An end that a text can have.
abbrev pub IsEnd : RuleEnd → Type 0
IsEnd Never = ⊤
IsEnd (Until last) = IsDateOrTime last
IsEnd (Count n) = IsCount n

-- Periods within days are periods of a daily pattern.
abbrev pub IsPeriod : Frequency → Option ClockUnit → Type 0
IsPeriod f None = ⊤
IsPeriod f (Some u) = f ≡ Daily

-- A recurrence that `parse` can return. Its numbers are in range, no parts exclude each other, and
-- positions have another list.
pub record IsSpelled (r : Recurrence) : Type 0 where
  pub period : IsPeriod r.pattern.frequency r.times.clock
  pub interval : IsCount r.pattern.interval
  pub each_week : All IsWeek r.pattern.weeks
  pub each_year_day : All IsPosition r.pattern.year_days
  pub each_month_day : All IsMonthDay r.pattern.month_days
  pub each_weekday : All IsByDay r.pattern.weekdays
  pub each_hour : All IsHour r.times.hours
  pub each_minute : All IsMinute r.times.minutes
  pub each_second : All IsSecond r.times.seconds
  pub each_position : All IsPosition r.pattern.set_positions
  pub allowed : excluded r ≡ None
  pub ranked : ranks_alone r ≡ false
  pub end : IsEnd r.end
