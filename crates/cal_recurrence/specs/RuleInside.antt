-- The fields of a date-time rule.
use Rattle.std.specs.Prelude.{◌≡◌, ◌+◌, Bool, true, ℕ, ℤ, List, map, Option, option_map}
use Rattle.cal_time.specs.Date.{last_day}
use Rattle.cal_datetime.specs.DateTime.{date_at, time_at}
use Rattle.cal_schedule.specs.declared.rule.rule.Rule.{Rule}
use Rattle.cal_schedule.specs.Pattern.{rule_of}
use Rattle.cal_schedule.specs.Rule.{is_occurrence}
use Rattle.cal_recurrence.specs.DateTimeRule.{DateTimeParts}
use Rattle.cal_recurrence.specs.TimesOfDay.{times_per_day}
use Rattle.cal_recurrence.specs.TimeSearch.{day_position, NoneIn}
use Rattle.cal_recurrence.specs.declared.clock_step.ClockStep.{ClockStep}
use Rattle.cal_recurrence.specs.declared.times_of_day.TimesOfDay.{TimesOfDay}

-- The parts of a rule with these fields: the pattern is the pattern of the days, with the positions
-- of the readings.
abbrev pub parts_of : ℤ → Option ℤ → Rule → TimesOfDay → List ℤ → ClockStep → DateTimeParts
parts_of start until days times positions step = record {
  start = start;
  until = until;
  pattern = record days.pattern { set_positions = positions };
  times = times;
  step = step;
}

-- The rule of the days goes from the day of the start to the day of the end, and its positions are
-- the positions of the days of the readings. If it is known to have no day, no day of the
-- range is an occurrence.
pub record IsInside (start : ℤ) (until : Option ℤ) (days : Rule) (times : TimesOfDay) (positions : List ℤ) (per_day : ℕ) (has_no_day : Bool) : Type 0 where
  pub days_are : days ≡ rule_of days.pattern (date_at start) (option_map date_at until)
  pub ranks_are : days.pattern.set_positions ≡ map (day_position per_day) positions
  pub count_is : per_day ≡ times_per_day times (time_at start)
  pub none_are : has_no_day ≡ true → NoneIn (is_occurrence days) 0 (last_day + 1)
