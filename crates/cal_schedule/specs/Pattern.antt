-- Patterns of recurrence rules.
use Rattle.std.specs.Prelude.{ℕ, [], Option}
use Rattle.cal_time.specs.declared.Weekday.TheVariants.{Monday}
use Rattle.cal_schedule.specs.declared.rule.pattern.Pattern.{Pattern}
use Rattle.cal_schedule.specs.declared.rule.rule.Frequency.{Frequency}
use Rattle.cal_schedule.specs.declared.rule.rule.Rule.{Rule}

-- The pattern of every day, week, month or year, with weeks from Monday and empty lists.
abbrev pub every : Frequency → Pattern
every f = record { frequency = f; interval = 1; week_start = Monday; months = []; weeks = []; year_days = []; month_days = []; weekdays = []; set_positions = [] }

-- The rule with a pattern and a start, and with an end or without one.
abbrev pub rule_of : Pattern → ℕ → Option ℕ → Rule
rule_of pattern start until = record { start = start; until = until; pattern = pattern }
