-- The periods of a rule within days: hours, minutes or seconds of the clock. A reading is its
-- nanoseconds since the first reading of the range, and each day of readings has 24 hours.
use Rattle.std.specs.Prelude.{ℕ, zero, suc, max, ◌+◌, ◌-◌, ◌/◌, ◌%◌, Bool, true, false, ◌&&◌, ◌==◌, if◌then◌else◌, ℤ, unsigned_abs, List, [], ◌∷◌, ◌++◌, length, Option, Some, None}
use Rattle.cal_time.specs.IsoWeekDate.{count_before}
use Rattle.cal_time.specs.SignedDuration.{day, hour, minute, second}
use Rattle.cal_datetime.specs.DateTime.{time_at}
use Rattle.cal_schedule.specs.declared.rule.pattern.Pattern.{Pattern}
use Rattle.cal_schedule.specs.declared.rule.rule.Frequency.TheVariants.{Daily}
use Rattle.cal_schedule.specs.Rule as date
use Rattle.cal_recurrence.specs.TimesOfDay.{matches_time}
use Rattle.cal_recurrence.specs.declared.clock_step.ClockStep.{ClockStep}
use Rattle.cal_recurrence.specs.declared.clock_unit.ClockUnit.{ClockUnit}
use Rattle.cal_recurrence.specs.declared.clock_unit.ClockUnit.TheVariants as unit
use Rattle.cal_recurrence.specs.declared.times_of_day.TimesOfDay.{TimesOfDay}

-- ---- periods
-- The nanoseconds of a period.
abbrev pub size_of : ClockUnit → ℕ
size_of unit.Hour = hour
size_of unit.Minute = minute
size_of unit.Second = second

-- The index of the period of a reading, from the first period of the range.
abbrev pub period_index : ClockUnit → ℤ → ℕ
period_index u z = unsigned_abs z / size_of u

-- The number of periods since the last selected one. A period is selected if it comes a multiple of
-- the interval after the period of the start. An interval of 0 counts as 1.
abbrev pub periods_past : ClockStep → ℤ → ℤ → ℕ
periods_past step start z = (period_index step.unit z - period_index step.unit start) % max step.interval 1

-- The time of day u passes, and is in the period of the time of day t. `own` is the time of the start.
abbrev pub passes_in : ClockUnit → TimesOfDay → ℕ → ℕ → ℕ → Bool
passes_in u times own t n = (n / size_of u == t / size_of u) && matches_time times own n

-- The number of times that pass in the period of the time of day t, up to t or from t on.
abbrev pub rank_of : ClockUnit → TimesOfDay → ℕ → ℕ → ℕ
rank_of u times own t = count_before (passes_in u times own t) (t + 1)

abbrev pub back_rank_of : ClockUnit → TimesOfDay → ℕ → ℕ → ℕ
back_rank_of u times own t = count_before (passes_in u times own t) day - count_before (passes_in u times own t) t

-- The time of day t has a position: its rank among the times that pass in its period.
abbrev pub has_position : ClockStep → TimesOfDay → ℕ → ℕ → Bool
has_position step times own t = date.allows (λ k. date.is_nth k (rank_of step.unit times own t) (back_rank_of step.unit times own t)) step.positions

-- The period of the reading z is selected, and its time of day has a position.
unfoldable pub matches_step : ClockStep → TimesOfDay → ℤ → ℤ → Bool
matches_step step times start z = (periods_past step start z == 0) && has_position step times (time_at start) (time_at z)

-- ---- the parts of a rule
-- The numbers below n, in order.
abbrev pub numbers_below : ℕ → List ℕ
numbers_below zero = []
numbers_below (suc n) = numbers_below n ++ n ∷ []

-- A list allows its values. An empty list allows every value if it limits the periods, that is if
-- they are at most as long as the unit of its values.
abbrev pub limits : Bool → ℕ → List ℕ → List ℕ
limits any end values = if any && (length values == 0) then numbers_below end else values

abbrev pub any_hour : Option ClockUnit → Bool
any_hour None = false
any_hour (Some u) = true

abbrev pub any_minute : Option ClockUnit → Bool
any_minute None = false
any_minute (Some unit.Hour) = false
any_minute (Some unit.Minute) = true
any_minute (Some unit.Second) = true

abbrev pub any_second : Option ClockUnit → Bool
any_second None = false
any_second (Some unit.Hour) = false
any_second (Some unit.Minute) = false
any_second (Some unit.Second) = true

-- The times of day with the lists that allow every value filled.
abbrev pub filled_times : TimesOfDay → TimesOfDay
filled_times times = record {
  hours = limits (any_hour times.clock) 24 times.hours;
  minutes = limits (any_minute times.clock) 60 times.minutes;
  seconds = limits (any_second times.clock) 60 times.seconds;
  clock = times.clock;
}

-- The pattern of the days: for periods within days, each day that its lists allow.
abbrev pub days_in : Option ClockUnit → Pattern → Pattern
days_in None pattern = pattern
days_in (Some u) pattern = record pattern { frequency = Daily; interval = 1; set_positions = [] }

-- The periods within days, with the interval and the positions of the pattern. Without them each
-- second is selected.
abbrev pub step_in : Option ClockUnit → Pattern → ClockStep
step_in None pattern = record { unit = unit.Second; interval = 1; positions = [] }
step_in (Some u) pattern = record { unit = u; interval = pattern.interval; positions = pattern.set_positions }
