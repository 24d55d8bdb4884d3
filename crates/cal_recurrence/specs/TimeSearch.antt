-- The search for the next reading of a date-time rule.
use Rattle.std.specs.Prelude.{◌≡◌, ℕ, zero, suc, max, ◌+◌, ◌*◌, ◌/◌, ◌%◌, ◌<◌, ◌≤◌, Bool, true, false, ◌&&◌, ℤ, pos, negsuc, Option, Some, None, MatchOption, if◌then◌else◌}
use Rattle.cal_time.specs.SignedDuration.{day}
use Rattle.cal_time.specs.Time.{hour_of, minute_of, second_of}
use Rattle.cal_datetime.specs.DateTime.{last_date_time, time_at}
use Rattle.cal_schedule.specs.Rule as date
use Rattle.cal_recurrence.specs.DateTimeRule.{DateTimeParts, day_rule, matches_positions}
use Rattle.cal_recurrence.specs.ClockPeriods.{matches_step}
use Rattle.cal_recurrence.specs.TimesOfDay.{allows_or_start, matches_time}
use Rattle.cal_recurrence.specs.declared.times_of_day.TimesOfDay.{TimesOfDay}

-- No number from m on and below e passes the test.
abbrev pub NoneIn : (ℕ → Bool) → ℕ → ℕ → Type 0
NoneIn test m e = (k : ℕ) → m ≤ k → k < e → test k ≡ false

-- x is the first number from m on and below e that passes the test.
pub record IsFirst (test : ℕ → Bool) (m e x : ℕ) : Type 0 where
  pub not_before : m ≤ x
  pub below : x < e
  pub passes : test x ≡ true
  pub none_before : NoneIn test m x

-- r is the first number from m on and below e that passes the test, or `None` without one.
abbrev pub IsNext : (ℕ → Bool) → ℕ → ℕ → Option ℕ → Type 0
IsNext test m e r = MatchOption r (NoneIn test m e) (IsFirst test m e)

-- The first of two values, or the only one. `before` says which comes first; if neither does, the
-- result is the left one.
abbrev pub first_by : {X : Type 0} → (X → X → Bool) → Option X → Option X → Option X
first_by before None other = other
first_by before (Some x) None = Some x
first_by before (Some x) (Some y) = if before y x then Some y else Some x

-- The minute n of a day, from 0 at midnight, passes.
abbrev pub matches_minute : TimesOfDay → ℕ → ℕ → Bool
matches_minute times own n = allows_or_start (hour_of own) times.hours (n / 60) && allows_or_start (minute_of own) times.minutes (n % 60)

-- The second n of a day, from 0 at midnight, passes.
abbrev pub matches_second : TimesOfDay → ℕ → ℕ → Bool
matches_second times own n = matches_minute times own (n / 60) && allows_or_start (second_of own) times.seconds (n % 60)

-- The position, among the days of a period, of the day of the reading at a position, if each day
-- has `per_day` readings.
abbrev pub day_position : ℕ → ℤ → ℤ
day_position per_day (pos zero) = pos zero
day_position per_day (pos (suc k)) = pos (k / max per_day 1 + 1)
day_position per_day (negsuc k) = negsuc (k / max per_day 1)

-- The time of day t passes on day n, and the reading has a position.
abbrev pub selects_time : DateTimeParts → ℕ → ℕ → Bool
selects_time rule n t = matches_time rule.times (time_at rule.start) t && matches_positions rule (pos (n * day + t))

-- The reading with the number k is on a day of the rule, its time of day passes, and it has a
-- position.
abbrev pub selects : DateTimeParts → ℕ → Bool
selects rule k =
    date.is_occurrence (day_rule rule) (k / day) && (matches_time rule.times (time_at rule.start) (k % day) && matches_positions rule (pos k))

-- The number of the reading on a day at a time of day.
abbrev pub reading_number : ℕ × ℕ → ℕ
reading_number both = both.0 * day + both.1

-- r is the day and the time of day of the first reading from the number m on that the rule selects
-- by its days, its times and its positions, or `None` without one.
abbrev pub IsNextReading : DateTimeParts → ℕ → Option (ℕ × ℕ) → Type 0
IsNextReading rule m r =
    MatchOption r (NoneIn (selects rule) m (last_date_time + 1)) (λ both. IsFirst (selects rule) m (last_date_time + 1) (reading_number both))

-- The reading with the number k is selected by its day, its time and its position, and by its period
-- within days.
abbrev pub selects_reading : DateTimeParts → ℕ → Bool
selects_reading rule k = selects rule k && matches_step rule.step rule.times rule.start (pos k)

-- r is the day and the time of day of the first reading from the number m on that the rule selects,
-- or `None` without one.
abbrev pub IsNextMatch : DateTimeParts → ℕ → Option (ℕ × ℕ) → Type 0
IsNextMatch rule m r =
    MatchOption r (NoneIn (selects_reading rule) m (last_date_time + 1)) (λ both. IsFirst (selects_reading rule) m (last_date_time + 1) (reading_number both))
