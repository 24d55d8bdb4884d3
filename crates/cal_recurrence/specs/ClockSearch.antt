-- The search for the next selected period.
use Rattle.std.specs.Prelude.{◌≡◌, ℕ, max, ◌+◌, ◌*◌, ◌/◌, ◌%◌, ◌<◌, ◌≤◌, ◌==◌, nat_le, length, Bool, true, false, ◌&&◌, ℤ, pos, ◌≤ℤ◌, Option, MatchOption}
use Rattle.cal_time.specs.Date.{IsDate}
use Rattle.cal_time.specs.SignedDuration.{day}
use Rattle.cal_datetime.specs.DateTime.{last_date_time}
use Rattle.cal_datetime.specs.DateTime.{time_at}
use Rattle.cal_schedule.specs.declared.rule.rule.Frequency.{Frequency}
use Rattle.cal_schedule.specs.declared.rule.rule.Frequency.TheVariants.{Daily}
use Rattle.cal_recurrence.specs.ClockPeriods.{has_position, matches_step, period_index, periods_past, size_of}
use Rattle.cal_recurrence.specs.DateTimeRule.{DateTimeParts}
use Rattle.cal_recurrence.specs.TimeSearch.{NoneIn, selects_reading}
use Rattle.cal_recurrence.specs.TimesOfDay.{matches_time}
use Rattle.cal_recurrence.specs.declared.times_of_day.TimesOfDay.{TimesOfDay}
use Rattle.cal_recurrence.specs.declared.clock_step.ClockStep.{ClockStep}

-- No reading after the number x and before the number e is in a selected period.
abbrev pub NoneSelected : ClockStep → ℤ → ℕ → ℕ → Type 0
NoneSelected step start x e = (k : ℕ) → x < k → k < e → ¬ (periods_past step start (pos k) ≡ 0)

-- r is a place after the reading with the number x, before which no reading is in a selected period,
-- or `None` if the range has none.
abbrev pub IsLater : ClockStep → ℤ → ℕ → Option (ℕ × ℕ) → Type 0
IsLater step start x r =
    MatchOption r (NoneSelected step start x (last_date_time + 1)) (λ both. IsDate both.0 × (both.1 ≤ day) × (x < both.0 * day + both.1) × NoneSelected step start x (both.0 * day + both.1))

-- g divides the interval and the number of periods of a day.
pub record Divides (step : ClockStep) (g : ℕ) : Type 0 where
  pub some : 1 ≤ g
  pub interval : max step.interval 1 % g ≡ 0
  pub per_day : day / size_of step.unit % g ≡ 0

-- The period of the time of day t is selected on some days as far as the divisor g tells, and the time
-- has a position.
abbrev pub can_match : ClockStep → TimesOfDay → ℤ → ℕ → ℕ → Bool
can_match step times start g t = (t / size_of step.unit % g == period_index step.unit start % g) && has_position step times (time_at start) t

-- No reading from the start on whose time of day passes has a selected period and a position.
abbrev pub NeverMeets : ClockStep → TimesOfDay → ℤ → Type 0
NeverMeets step times start = (k : ℕ) → start ≤ℤ pos k → matches_time times (time_at start) (k % day) ≡ true → matches_step step times start (pos k) ≡ false

-- A number of days is a multiple of 400 years and of the interval.
pub record Repeats (step : ClockStep) (days : ℕ) : Type 0 where
  pub some : 1 ≤ days
  pub years : days % 146_097 ≡ 0
  pub interval : days * (day / size_of step.unit) % max step.interval 1 ≡ 0
  pub most : days ≤ 146_097 * 5_000

-- The pattern of the days has each day that its lists allow, and the rule has no positions.
abbrev pub is_daily : Frequency → Bool
is_daily Daily = true
is_daily f = false

abbrev pub has_every_day : DateTimeParts → Bool
has_every_day rule = is_daily rule.pattern.frequency && (nat_le rule.pattern.interval 1 && (length rule.pattern.set_positions == 0))

-- If no reading up to the end of a day is selected, no later one is.
abbrev pub Closes : DateTimeParts → ℕ → ℕ → Type 0
Closes rule m last = NoneIn (selects_reading rule) m ((last + 1) * day) → NoneIn (selects_reading rule) m (last_date_time + 1)
