-- The days of a recurrence: the days of its rule from a start, or with a COUNT the first of them.
use Rattle.std.specs.Prelude.{◌==◌, ◌&&◌, Bool, true, false, not, if◌then◌else◌, ℕ, List, length, take, Option, Some, None}
use Rattle.std.specs.List.{list_any}
use Rattle.cal_schedule.specs.declared.rule.rule.ByDay.{ByDay}
use Rattle.cal_schedule.specs.declared.rule.rule.ByDay.TheVariants.{Every, Nth}
use Rattle.cal_schedule.specs.declared.rule.rule.Frequency.{Frequency}
use Rattle.cal_schedule.specs.declared.rule.rule.Frequency.TheVariants.{Daily, Weekly, Monthly, Yearly}
use Rattle.cal_recurrence.specs.declared.clock_unit.ClockUnit.{ClockUnit}
use Rattle.cal_recurrence.specs.declared.fault.RulePart.{RulePart}
use Rattle.cal_recurrence.specs.declared.fault.RulePart.TheVariants as part
use Rattle.cal_schedule.specs.Pattern.{rule_of}
use Rattle.cal_schedule.specs.Rule.{occurrences}
use Rattle.cal_recurrence.specs.DateOrTime.{date_of}
use Rattle.cal_recurrence.specs.declared.recurrence.Recurrence.{Recurrence}
use Rattle.cal_recurrence.specs.declared.recurrence.RuleEnd.{RuleEnd}
use Rattle.cal_recurrence.specs.declared.recurrence.RuleEnd.TheVariants.{Never, Until, Count}

-- The last day that the rule can have: the day of an UNTIL, or `None` without one.
abbrev pub last_of : RuleEnd → Option ℕ
last_of Never = None
last_of (Until last) = Some (date_of last)
last_of (Count count) = None

-- The end is an UNTIL or a COUNT.
abbrev pub has_end : RuleEnd → Bool
has_end Never = false
has_end (Until last) = true
has_end (Count count) = true

-- The COUNT, or a number without one.
abbrev pub count_or : ℕ → RuleEnd → ℕ
count_or none Never = none
count_or none (Until last) = none
count_or none (Count count) = count

-- The recurrence has positions, and no other list.
abbrev pub ranks_alone : Recurrence → Bool
ranks_alone r = not (length r.pattern.set_positions == 0) && ((length r.pattern.months == 0) && ((length r.pattern.weeks == 0) && ((length r.pattern.year_days == 0) && ((length r.pattern.month_days == 0) && ((length r.pattern.weekdays == 0) && ((length r.times.hours == 0) && ((length r.times.minutes == 0) && (length r.times.seconds == 0))))))))

-- A weekday has a number.
abbrev pub is_numbered : ByDay → Bool
is_numbered (Every w) = false
is_numbered (Nth k w) = true

-- The days of the year or the weeks of a recurrence, and its frequency. Only a yearly recurrence
-- can have days of the year or weeks.
abbrev pub excluded_days : Recurrence → Option (RulePart × RulePart)
excluded_days r =
    if not (length r.pattern.year_days == 0) then Some (part.YearDays, part.Frequency) else
    if not (length r.pattern.weeks == 0) then Some (part.Weeks, part.Frequency) else None

-- Two parts that exclude each other by RFC 5545, or `None`. Weekdays have no numbers in a daily or
-- weekly recurrence, or in a yearly one with weeks. A weekly recurrence has no days of the month.
abbrev pub excluded_at : Frequency → Recurrence → Option (RulePart × RulePart)
excluded_at Daily r = if list_any is_numbered r.pattern.weekdays then Some (part.Weekdays, part.Frequency) else excluded_days r
excluded_at Weekly r =
    if list_any is_numbered r.pattern.weekdays then Some (part.Weekdays, part.Frequency) else
    if not (length r.pattern.month_days == 0) then Some (part.MonthDays, part.Frequency) else excluded_days r
excluded_at Monthly r = excluded_days r
excluded_at Yearly r = if not (length r.pattern.weeks == 0) && list_any is_numbered r.pattern.weekdays then Some (part.Weekdays, part.Weeks) else None

-- Periods within days have neither weekdays with numbers nor weeks.
abbrev pub excluded_in : Option ClockUnit → Recurrence → Option (RulePart × RulePart)
excluded_in None r = excluded_at r.pattern.frequency r
excluded_in (Some u) r =
    if list_any is_numbered r.pattern.weekdays then Some (part.Weekdays, part.Frequency) else
    if not (length r.pattern.weeks == 0) then Some (part.Weeks, part.Frequency) else None

-- Two parts of a recurrence that exclude each other, or `None`.
abbrev pub excluded : Recurrence → Option (RulePart × RulePart)
excluded r = excluded_in r.times.clock r

-- The days or readings up to the end: the first `count` of them if the end is a COUNT. An UNTIL is in
-- the rule.
abbrev pub up_to_end : {X : Type 0} → RuleEnd → List X → List X
up_to_end Never days = days
up_to_end (Until last) days = days
up_to_end (Count count) days = take count days

-- The days of a recurrence from the start `first`.
abbrev pub days_of : Recurrence → ℕ → List ℕ
days_of r first = up_to_end r.end (occurrences (rule_of r.pattern first (last_of r.end)))
