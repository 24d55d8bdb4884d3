-- The parts of a recurrence as numbers.
use Rattle.std.specs.Prelude.{ℕ, ◌+◌, ◌-◌, ℤ, pos, List, ◌++◌, length, map, replicate, Option, Some, None, Result, Ok, Err}
use Rattle.cal_time.specs.Date.{julian_day_at}
use Rattle.cal_time.specs.Month.{number}
use Rattle.cal_time.specs.Weekday.{index}
use Rattle.cal_schedule.specs.declared.rule.rule.ByDay.{ByDay}
use Rattle.cal_schedule.specs.declared.rule.rule.ByDay.TheVariants.{Every, Nth}
use Rattle.cal_schedule.specs.declared.rule.rule.Frequency.{Frequency}
use Rattle.cal_recurrence.specs.DateOrTime.{date_of}
use Rattle.cal_recurrence.specs.declared.clock_unit.ClockUnit.{ClockUnit}
use Rattle.cal_recurrence.specs.declared.clock_unit.ClockUnit.TheVariants as unit
use Rattle.cal_recurrence.specs.declared.fault.ParseRuleError.{ParseRuleError}
use Rattle.cal_recurrence.specs.declared.recurrence.Recurrence.{Recurrence}
use Rattle.cal_recurrence.specs.declared.recurrence.RuleEnd.{RuleEnd}
use Rattle.cal_recurrence.specs.declared.recurrence.RuleEnd.TheVariants.{Never, Until, Count}
use Rattle.cal_c.specs.RecurrenceTexts.{error_part, reason_status}
use Rattle.cal_c.specs.Recurrences.{frequency_number}
use Rattle.cal_c.specs.Results.{no_value}
use Rattle.cal_c.specs.declared.status.TheConstants.{OK}
use Rattle.cal_c.specs.Texts.{no_position}
use Rattle.cal_c.specs.declared.schedule.recurrences.recurrence_parts.RecurrenceParts.{RecurrenceParts}
use Rattle.cal_c.specs.declared.schedule.recurrences.parsing.ParseRecurrenceResult.{ParseRecurrenceResult}
use Rattle.cal_c.specs.declared.schedule.recurrences.rule_parts.RuleWeekday.{RuleWeekday}

-- The last day of a recurrence as a Julian day, or the number for no last day.
abbrev pub until_in : RuleEnd → ℤ
until_in Never = no_value
until_in (Until last) = julian_day_at (date_of last)
until_in (Count n) = no_value

-- The number of days of a recurrence, or 0.
abbrev pub count_in : RuleEnd → ℕ
count_in Never = 0
count_in (Until last) = 0
count_in (Count n) = n

-- The number of a frequency, or of periods within days: 5 for hours, 6 for minutes, 7 for seconds.
abbrev pub period_number : Option ClockUnit → Frequency → ℕ
period_number None f = frequency_number f
period_number (Some unit.Hour) f = 5
period_number (Some unit.Minute) f = 6
period_number (Some unit.Second) f = 7

-- A weekday of a rule as numbers.
abbrev pub parts_of_weekday : ByDay → RuleWeekday
parts_of_weekday (Every w) = record { number = pos 0; weekday = index w + 1 }
parts_of_weekday (Nth k w) = record { number = k; weekday = index w + 1 }

-- The numbers of no weekday.
abbrev pub no_weekday : RuleWeekday
no_weekday = record { number = pos 0; weekday = 0 }

-- A list is filled up to 62 values.
abbrev pub filled : {X : Type 0} → X → List X → List X
filled x xs = xs ++ replicate (62 - length xs) x

-- The parts of a recurrence.
abbrev pub parts_of : Recurrence → RecurrenceParts
parts_of r = record {
  frequency = period_number r.times.clock r.pattern.frequency;
  interval = r.pattern.interval;
  week_start = index r.pattern.week_start + 1;
  until = until_in r.end;
  count = count_in r.end;
  months_length = length r.pattern.months;
  weeks_length = length r.pattern.weeks;
  year_days_length = length r.pattern.year_days;
  month_days_length = length r.pattern.month_days;
  weekdays_length = length r.pattern.weekdays;
  set_positions_length = length r.pattern.set_positions;
  months = filled 0 (map number r.pattern.months);
  weeks = filled (pos 0) r.pattern.weeks;
  year_days = filled (pos 0) r.pattern.year_days;
  month_days = filled (pos 0) r.pattern.month_days;
  weekdays = filled no_weekday (map parts_of_weekday r.pattern.weekdays);
  set_positions = filled (pos 0) r.pattern.set_positions;
  unused = 0;
}

-- The parts for an error.
abbrev pub no_parts : RecurrenceParts
no_parts = record {
  frequency = 0;
  interval = 0;
  week_start = 0;
  until = no_value;
  count = 0;
  months_length = 0;
  weeks_length = 0;
  year_days_length = 0;
  month_days_length = 0;
  weekdays_length = 0;
  set_positions_length = 0;
  months = replicate 62 0;
  weeks = replicate 62 (pos 0);
  year_days = replicate 62 (pos 0);
  month_days = replicate 62 (pos 0);
  weekdays = replicate 62 no_weekday;
  set_positions = replicate 62 (pos 0);
  unused = 0;
}

-- The result of parsing: the parts of the recurrence, or the first wrong part of the string.
abbrev pub parse_recurrence_result : Result Recurrence ParseRuleError → ParseRecurrenceResult
parse_recurrence_result (Ok its) = record { status = OK; part = 0; position = no_position; recurrence = parts_of its; unused = 0 }
parse_recurrence_result (Err fault) = record { status = reason_status fault.reason; part = error_part fault.reason; position = fault.position; recurrence = no_parts; unused = 0 }
