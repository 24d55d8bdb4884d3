-- Recurrence rules with the parts that C passes.
use Rattle.std.specs.Prelude.{◌≡◌, ℕ, zero, ◌-◌, ◌<◌, ◌≤◌, min, ℤ, pos, List, [], ◌∷◌, All, get_or, length, map, slice_index_or, Some}
use Rattle.cal_time.specs.Date.{julian_day_at}
use Rattle.cal_schedule.specs.Pattern.{rule_of}
use Rattle.cal_schedule.specs.Values.{most_values}
use Rattle.cal_schedule.specs.declared.rule.pattern.Pattern.{Pattern}
use Rattle.cal_schedule.specs.declared.rule.rule.ByDay.{ByDay}
use Rattle.cal_schedule.specs.declared.rule.rule.ByDay.TheVariants.{Every, Nth}
use Rattle.cal_schedule.specs.declared.rule.rule.Frequency.{Frequency}
use Rattle.cal_schedule.specs.declared.rule.rule.Frequency.TheVariants.{Daily, Weekly, Monthly, Yearly}
use Rattle.cal_schedule.specs.declared.rule.rule.Rule.{Rule}
use Rattle.cal_recurrence.specs.declared.set.RecurrenceSet.{RecurrenceSet}
use Rattle.cal_time.specs.Month.{month_of_index}
use Rattle.cal_time.specs.Weekday.{weekday_of_index}
use Rattle.cal_time.specs.declared.Month.{Month}
use Rattle.cal_time.specs.declared.Weekday.{Weekday}
use Rattle.cal_c.specs.declared.status.TheConstants.{OK, INVALID_DATE, INVALID_WEEKDAY, INVALID_FREQUENCY, TOO_MANY_PARTS, MONTH_OUT_OF_RANGE, TOO_MANY_DATES}
use Rattle.cal_c.specs.Values.{IsJulianDay, IsMonth, IsWeekday, dates_in, day_of, max_dates}
use Rattle.cal_c.specs.declared.schedule.recurrences.rule_from_parts.PlainParts.{PlainParts}
use Rattle.cal_c.specs.declared.schedule.recurrences.rule_parts.RuleParts.{RuleParts}
use Rattle.cal_c.specs.declared.schedule.recurrences.rule_parts.RuleWeekday.{RuleWeekday}
use Rattle.cal_c.specs.declared.schedule.results.DaysResult.{DaysResult}

-- Frequencies are numbered from 1, daily, to 4, yearly.
abbrev pub frequency_number : Frequency → ℕ
frequency_number Daily = 1
frequency_number Weekly = 2
frequency_number Monthly = 3
frequency_number Yearly = 4

abbrev pub IsFrequency : ℕ → Type 0
IsFrequency k = (1 ≤ k) × (k ≤ 4)

-- The frequency with a number.
abbrev pub frequency_in : ℕ → Frequency
frequency_in k = slice_index_or (Daily ∷ Weekly ∷ Monthly ∷ Yearly ∷ []) (k - 1) Yearly

-- The months with these numbers.
abbrev pub months_in : List ℕ → List Month
months_in ms = map (λ m. month_of_index (m - 1)) ms

-- A weekday of a rule has a number in the month or the year; 0 means each such weekday.
abbrev pub by_day : ℤ → Weekday → ByDay
by_day (pos zero) w = Every w
by_day k w = Nth k w

abbrev pub weekday_in : RuleWeekday → ByDay
weekday_in w = by_day w.number (weekday_of_index (w.weekday - 1))

abbrev pub weekdays_in : List RuleWeekday → List ByDay
weekdays_in ws = map weekday_in ws

-- The dates of the parts are valid.
abbrev pub AreDates : RuleParts → Type 0
AreDates p = IsJulianDay p.start × IsJulianDay p.until

-- No list has more than 62 values, the limit of a recurrence in text.
abbrev pub AreListsShort : RuleParts → Type 0
AreListsShort p =
    (length p.months.now ≤ most_values) × (length p.weeks.now ≤ most_values) × (length p.year_days.now ≤ most_values)
    × (length p.month_days.now ≤ most_values) × (length p.weekdays.now ≤ most_values) × (length p.set_positions.now ≤ most_values)

-- Each number is the number of a month.
abbrev pub AreMonths : List ℕ → Type 0
AreMonths ms = All IsMonth ms

-- Each weekday is valid.
abbrev pub AreWeekdays : List RuleWeekday → Type 0
AreWeekdays ws = All (λ w. IsWeekday w.weekday) ws

-- The parts that are single numbers are valid.
pub record ArePlain (p : RuleParts) : Type 0 where
  pub dates : AreDates p
  pub frequency : IsFrequency p.frequency
  pub week_start : IsWeekday p.week_start

-- All parts are valid.
pub record IsRule (p : RuleParts) : Type 0 where
  pub plain : ArePlain p
  pub few : AreListsShort p
  pub months : AreMonths p.months.now
  pub weekdays : AreWeekdays p.weekdays.now

-- The status of the first invalid part.
pub record IsRuleStatus (p : RuleParts) (s : ℤ) : Type 0 where
  pub dates : ¬ AreDates p → s ≡ INVALID_DATE
  pub frequency : AreDates p → ¬ IsFrequency p.frequency → s ≡ INVALID_FREQUENCY
  pub week_start : AreDates p → IsFrequency p.frequency → ¬ IsWeekday p.week_start → s ≡ INVALID_WEEKDAY
  pub few : ArePlain p → ¬ AreListsShort p → s ≡ TOO_MANY_PARTS
  pub months : ArePlain p → AreListsShort p → ¬ AreMonths p.months.now → s ≡ MONTH_OUT_OF_RANGE
  pub weekdays : ArePlain p → AreListsShort p → AreMonths p.months.now → ¬ AreWeekdays p.weekdays.now → s ≡ INVALID_WEEKDAY

-- The parts p that are single numbers, except the interval.
abbrev pub plain_in : RuleParts → PlainParts
plain_in p = record { start = day_of p.start; until = day_of p.until; frequency = frequency_in p.frequency; week_start = weekday_of_index (p.week_start - 1) }

-- The pattern of the parts p: all parts except the start and the last day.
abbrev pub pattern_in : RuleParts → Pattern
pattern_in p = record {
  frequency = frequency_in p.frequency;
  interval = p.interval;
  week_start = weekday_of_index (p.week_start - 1);
  months = months_in p.months.now;
  weeks = p.weeks.now;
  year_days = p.year_days.now;
  month_days = p.month_days.now;
  weekdays = weekdays_in p.weekdays.now;
  set_positions = p.set_positions.now;
}

-- The rule with the parts p (RFC 5545): their pattern from the start to the last day.
abbrev pub rule_in : RuleParts → Rule
rule_in p = rule_of (pattern_in p) (day_of p.start) (Some (day_of p.until))

-- The other dates (`RDATE`) and the exceptions (`EXDATE`) are at most 1024 each.
abbrev pub AreDatesFew : RuleParts → Type 0
AreDatesFew p = (length p.dates.now ≤ max_dates) × (length p.exceptions.now ≤ max_dates)

-- They are valid.
abbrev pub AreListedDates : RuleParts → Type 0
AreListedDates p = All IsJulianDay p.dates.now × All IsJulianDay p.exceptions.now

-- All parts and dates are valid.
pub record IsSet (p : RuleParts) : Type 0 where
  pub rule : IsRule p
  pub few : AreDatesFew p
  pub dates : AreListedDates p

-- The status of the first invalid part or list.
pub record IsSetStatus (p : RuleParts) (s : ℤ) : Type 0 where
  pub rule : ¬ IsRule p → IsRuleStatus p s
  pub few : IsRule p → ¬ AreDatesFew p → s ≡ TOO_MANY_DATES
  pub dates : IsRule p → AreDatesFew p → ¬ AreListedDates p → s ≡ INVALID_DATE

-- The set with the parts p: their rule with the other dates and without the exceptions. The
-- definitions of a set don't read where a list is in memory.
abbrev pub set_in : RuleParts → RecurrenceSet
set_in p = record {
  rule = rule_in p;
  dates = record { ref_ptr = (0, 0); now = dates_in p.dates.now };
  exceptions = record { ref_ptr = (0, 0); now = dates_in p.exceptions.now };
}

-- The result with a number of days written.
abbrev pub days_ok : ℕ → DaysResult
days_ok count = record { status = OK; unused = 0; length = count }

-- The result with an error.
abbrev pub days_error : ℤ → DaysResult
days_error s = record { status = s; unused = 0; length = 0 }

-- The first days of a list were written, as many as fit in the array, and the rest of the array is
-- unchanged.
pub record AreDatesWritten (ns : List ℕ) (old new : List ℤ) (count : ℕ) : Type 0 where
  pub count_is : count ≡ min (length ns) (length old)
  pub days : (k : ℕ) → k < count → get_or new k (pos 0) ≡ julian_day_at (get_or ns k 0)
  pub others : (k : ℕ) → count ≤ k → get_or new k (pos 0) ≡ get_or old k (pos 0)
