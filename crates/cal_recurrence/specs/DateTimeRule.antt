-- The readings of a date-time rule, which filters the readings of the range. A reading is its
-- nanoseconds since the first reading of the range.
use Rattle.std.specs.Prelude.{ℕ, ◌+◌, ◌-◌, Bool, true, ◌&&◌, ℤ, pos, int_le, unsigned_abs, List, [], ◌∷◌, length, map, filter, Option, Some, None, option_map}
use Rattle.cal_time.specs.IsoWeekDate.{count_before}
use Rattle.cal_time.specs.Occurrences.{days_from}
use Rattle.cal_datetime.specs.DateTime.{last_date_time, date_at, time_at}
use Rattle.cal_schedule.specs.declared.rule.pattern.Pattern.{Pattern}
use Rattle.cal_schedule.specs.declared.rule.rule.Rule.{Rule}
use Rattle.cal_schedule.specs.Pattern.{rule_of}
use Rattle.cal_schedule.specs.Rule as date
use Rattle.cal_recurrence.specs.ClockPeriods.{days_in, filled_times, matches_step, step_in}
use Rattle.cal_recurrence.specs.TimesOfDay.{matches_time}
use Rattle.cal_recurrence.specs.declared.clock_step.ClockStep.{ClockStep}
use Rattle.cal_recurrence.specs.declared.times_of_day.TimesOfDay.{TimesOfDay}

-- The parts of a date-time rule: its first and last possible readings, the pattern of its days, its
-- times of day and its periods within days.
pub record DateTimeParts : Type 0 where
  pub start : ℤ
  pub until : Option ℤ
  pub pattern : Pattern
  pub times : TimesOfDay
  pub step : ClockStep

-- The date-time rule with these parts. For periods within days, the interval and the positions of
-- the pattern are the interval and the positions of these periods.
abbrev pub date_time_rule : ℤ → Option ℤ → Pattern → TimesOfDay → DateTimeParts
date_time_rule start until pattern times = record {
  start = start;
  until = until;
  pattern = days_in times.clock pattern;
  times = filled_times times;
  step = step_in times.clock pattern;
}

-- The rule of the days of a pattern, from the day of the start to the day of the end.
abbrev pub days_of : DateTimeParts → Pattern → Rule
days_of rule pattern = rule_of pattern (date_at rule.start) (option_map date_at rule.until)

-- The rule of the days without its positions, which count readings and not days.
abbrev pub day_rule : DateTimeParts → Rule
day_rule rule = days_of rule (record rule.pattern { set_positions = [] })

-- The reading z is not after the last one, if there is one.
abbrev pub is_not_after : Option ℤ → ℤ → Bool
is_not_after None z = true
is_not_after (Some last) z = int_le z last

-- The reading with the number k passes in the period of the reading z: its day is in this period
-- and passes the pattern, and its time of day passes.
abbrev pub passes_with : DateTimeParts → ℤ → ℕ → Bool
passes_with rule z k =
    date.passes_with (day_rule rule) (date_at z) (date_at (pos k)) && matches_time rule.times (time_at rule.start) (time_at (pos k))

-- The number of readings of the range that pass a test, from the reading with the number n on.
abbrev pub count_from : (ℕ → Bool) → ℕ → ℕ
count_from test n = length (filter test (days_from n (last_date_time + 1 - n)))

-- The reading z has a position of the rule: its rank among the readings of the range that pass in
-- its period, from 1 at the first reading or from -1 at the last one.
unfoldable pub matches_positions : DateTimeParts → ℤ → Bool
matches_positions rule z =
    date.allows (λ k. date.is_nth k (count_before (passes_with rule z) (unsigned_abs z + 1)) (count_from (passes_with rule z) (unsigned_abs z))) rule.pattern.set_positions

-- The reading z is an occurrence if it isn't before the start or after the end, its day is a day of
-- the rule, its time of day passes, it has a position, and its period within days is selected.
unfoldable pub is_occurrence : DateTimeParts → ℤ → Bool
is_occurrence rule z =
    int_le rule.start z
    && (is_not_after rule.until z
    && ((date.is_occurrence (day_rule rule) (date_at z) && (matches_time rule.times (time_at rule.start) (time_at z) && matches_positions rule z)) && matches_step rule.step rule.times rule.start z))

-- The readings of the range that pass a test, from the reading with the number n on, in ascending
-- order.
abbrev pub readings_from : (ℤ → Bool) → ℕ → List ℤ
readings_from test n = map pos (filter (λ k. test (pos k)) (days_from n (last_date_time + 1 - n)))

-- A reading and the readings after it that pass a test, or no readings.
abbrev pub readings_left : (ℤ → Bool) → Option ℤ → List ℤ
readings_left test None = []
readings_left test (Some z) = z ∷ readings_from test (unsigned_abs z + 1)

-- The occurrences of the range from the reading with the number n on, in ascending order.
abbrev pub occurrences_from : DateTimeParts → ℕ → List ℤ
occurrences_from rule n = readings_from (is_occurrence rule) n

-- The occurrences after the reading z, in ascending order.
abbrev pub occurrences_after : DateTimeParts → ℤ → List ℤ
occurrences_after rule z = occurrences_from rule (unsigned_abs z + 1)

-- All occurrences, in ascending order.
abbrev pub occurrences : DateTimeParts → List ℤ
occurrences rule = occurrences_from rule 0

-- An occurrence and the occurrences after it, or no occurrences.
abbrev pub occurrences_left : DateTimeParts → Option ℤ → List ℤ
occurrences_left rule r = readings_left (is_occurrence rule) r
