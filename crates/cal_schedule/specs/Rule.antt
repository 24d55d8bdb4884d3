-- The days of a rule in a subset of RFC 5545 (recurrence rule), which filters the days of the
-- range.
use Rattle.std.specs.Prelude.{ℕ, suc, max, ◌+◌, ◌-◌, ◌/◌, ◌%◌, Bool, true, false, not, ◌&&◌, ◌||◌, ◌==◌, nat_le, if◌then◌else◌, ℤ, pos, negsuc, ◌+ℤ◌, ◌-ℤ◌, ◌*ℤ◌, unsigned_abs, List, [], ◌∷◌, Option, Some, None, filter}
use Rattle.std.specs.List.{list_any}
use Rattle.cal_time.specs.Date.{first_year, last_day, year_at, month_at, day_of_month_at, ordinal_at, weekday_at}
use Rattle.cal_time.specs.IsoWeekDate.{count_before}
use Rattle.cal_time.specs.Lengths.{days_in_month, days_in_year}
use Rattle.cal_time.specs.Month.{number}
use Rattle.cal_time.specs.Occurrences.{days_from, days_back_from}
use Rattle.cal_time.specs.Weekday.{index}
use Rattle.cal_time.specs.declared.Weekday.{Weekday}
use Rattle.cal_schedule.specs.Months.{month_number_at}
use Rattle.cal_schedule.specs.Weekdays.{count_from}
use Rattle.cal_schedule.specs.declared.rule.rule.Frequency.{Frequency}
use Rattle.cal_schedule.specs.declared.rule.rule.Frequency.TheVariants.{Daily, Weekly, Monthly, Yearly}
use Rattle.cal_schedule.specs.declared.rule.rule.ByDay.{ByDay}
use Rattle.cal_schedule.specs.declared.rule.rule.ByDay.TheVariants.{Every, Nth}
use Rattle.cal_schedule.specs.declared.rule.rule.Rule.{Rule}
use Rattle.cal_schedule.specs.declared.rule.unit.PeriodUnit.{PeriodUnit}
use Rattle.cal_schedule.specs.declared.rule.unit.PeriodUnit.TheVariants as unit

-- The fourth day of the week of day n, 400 years later: the week can begin before the range, and
-- the calendar repeats. A week belongs to the year of its fourth day, the year that has most of its
-- days.
unfoldable pub fourth_day : Weekday → ℕ → ℕ
fourth_day first n = n + 146100 - (weekday_at n + 7 - index first) % 7

-- The index of the period of day n, from the start of the range. Weeks begin on the weekday
-- `first`. The first days of the range can be in the last week of the year before it.
unfoldable pub period_index : PeriodUnit → ℕ → ℕ
period_index unit.Day n = n
period_index (unit.Week first) n = (n + 7 - index first) / 7
period_index unit.Month n = unsigned_abs (month_number_at n -ℤ first_year *ℤ pos 12)
period_index unit.Year n = unsigned_abs (year_at n -ℤ first_year)
period_index (unit.WeekYear first) n = unsigned_abs (year_at (fourth_day first n) -ℤ (first_year +ℤ pos 399))

-- An item is the k-th if it has the number k from the start, or the number -k from the end if k is
-- negative. `ahead` and `back` are its numbers from the start and the end, both from 1.
abbrev pub is_nth : ℤ → ℕ → ℕ → Bool
is_nth (pos k) ahead back = ahead == k
is_nth (negsuc k) ahead back = back == suc k

-- A part of a rule allows what passes the test with one of its values. An empty part allows
-- everything.
abbrev pub allows : {X : Type 0} → (X → Bool) → List X → Bool
allows test [] = true
allows test (x ∷ xs) = list_any test (x ∷ xs)

-- A list is empty.
abbrev pub is_empty : {X : Type 0} → List X → Bool
is_empty [] = true
is_empty (x ∷ xs) = false

-- Day n is day k of its month, counted from the end if k is negative.
unfoldable pub is_month_day : ℕ → ℤ → Bool
is_month_day n k = is_nth k (day_of_month_at n) (days_in_month (year_at n) (month_at n) + 1 - day_of_month_at n)

-- Day n is day k of its year, counted from the end if k is negative.
unfoldable pub is_year_day : ℕ → ℤ → Bool
is_year_day n k = is_nth k (ordinal_at n) (days_in_year (year_at n) + 1 - ordinal_at n)

-- Day n is the k-th with its weekday in its year (`true`) or in its month (`false`). Every seven
-- days have one day with it.
unfoldable pub is_nth_weekday : Bool → ℕ → ℤ → Bool
is_nth_weekday true n k = is_nth k ((ordinal_at n + 6) / 7) ((days_in_year (year_at n) - ordinal_at n) / 7 + 1)
is_nth_weekday false n k = is_nth k ((day_of_month_at n + 6) / 7) ((days_in_month (year_at n) (month_at n) - day_of_month_at n) / 7 + 1)

-- The week of day n is the k-th of its year: its fourth day is the k-th with its weekday in that
-- year.
unfoldable pub is_week : Weekday → ℕ → ℤ → Bool
is_week first n k = is_nth_weekday true (fourth_day first n) k

-- Day n has the weekday of a value of `BYDAY`, and the value's number in the year (`true`) or the
-- month (`false`) if it has one.
unfoldable pub matches_by_day : Bool → ℕ → ByDay → Bool
matches_by_day of_year n (Every w) = weekday_at n == index w
matches_by_day of_year n (Nth k w) = (weekday_at n == index w) && is_nth_weekday of_year n k

-- A rule is yearly.
abbrev pub is_yearly : Frequency → Bool
is_yearly Yearly = true
is_yearly f = false

-- A rule names no day: it has no days of the year or of the month, and no weekdays.
abbrev pub names_no_day : Rule → Bool
names_no_day rule = is_empty rule.pattern.year_days && (is_empty rule.pattern.month_days && is_empty rule.pattern.weekdays)

-- The periods that a rule counts, by its frequency, the weekday on which weeks begin, and whether
-- it has no weeks. A yearly rule with weeks has the years of its weeks.
abbrev pub unit_by : Frequency → Weekday → Bool → PeriodUnit
unit_by Daily first no_weeks = unit.Day
unit_by Weekly first no_weeks = unit.Week first
unit_by Monthly first no_weeks = unit.Month
unit_by Yearly first true = unit.Year
unit_by Yearly first false = unit.WeekYear first

-- The periods that a rule counts: days, weeks, months, years, or years of weeks.
unfoldable pub unit_of : Rule → PeriodUnit
unit_of rule = unit_by rule.pattern.frequency rule.pattern.week_start (is_empty rule.pattern.weeks)

-- Day n is in a month of the rule. A yearly rule that names neither months nor weeks nor days has
-- the month of its start.
unfoldable pub matches_months : Rule → ℕ → Bool
matches_months rule n =
    allows (λ m. number m == month_at n) rule.pattern.months
    && (not (is_yearly rule.pattern.frequency && is_empty rule.pattern.months && is_empty rule.pattern.weeks && names_no_day rule) || (month_at n == month_at rule.start))

-- Day n is in a week of the rule.
unfoldable pub matches_weeks : Rule → ℕ → Bool
matches_weeks rule n = allows (is_week rule.pattern.week_start n) rule.pattern.weeks

-- Day n has the day of the start: any day in a daily rule, the weekday in a weekly rule, the day of
-- the month in a monthly or yearly rule.
abbrev pub matches_start : Frequency → ℕ → ℕ → Bool
matches_start Daily start n = true
matches_start Weekly start n = weekday_at n == weekday_at start
matches_start Monthly start n = day_of_month_at n == day_of_month_at start
matches_start Yearly start n = day_of_month_at n == day_of_month_at start

-- Day n passes the days of the year and of the month and the weekdays. The numbers of weekdays are
-- those in the year if the rule is yearly and has no months, else in the month. If the rule names
-- no day, day n has the day of the start, by the weekday if there are weeks.
unfoldable pub matches_days : Rule → ℕ → Bool
matches_days rule n =
    if names_no_day rule then matches_start (if is_empty rule.pattern.weeks then rule.pattern.frequency else Weekly) rule.start n
    else allows (is_year_day n) rule.pattern.year_days
    && (allows (is_month_day n) rule.pattern.month_days
    && allows (matches_by_day (is_yearly rule.pattern.frequency && is_empty rule.pattern.months) n) rule.pattern.weekdays)

-- Day n is not after the last day, if there is one.
abbrev pub matches_until : Option ℕ → ℕ → Bool
matches_until None n = true
matches_until (Some last) n = nat_le n last

-- A rule selects every n-th period. An interval of 0 counts as 1.
abbrev pub interval_or_1 : Rule → ℕ
interval_or_1 rule = max rule.pattern.interval 1

-- The number of periods from the last selected period to the period of day n. A period is selected
-- if it comes a multiple of the interval after the period of the start.
unfoldable pub periods_past : Rule → ℕ → ℕ
periods_past rule n = (period_index (unit_of rule) n - period_index (unit_of rule) rule.start) % interval_or_1 rule

-- Day n passes the months, the weeks and the days.
unfoldable pub passes : Rule → ℕ → Bool
passes rule n = matches_months rule n && (matches_weeks rule n && matches_days rule n)

-- Day k is one of the days that pass in the period of day n.
abbrev pub passes_with : Rule → ℕ → ℕ → Bool
passes_with rule n k =
    (period_index (unit_of rule) k == period_index (unit_of rule) n) && passes rule k

-- Day n has a position of the rule: its rank among the days of the range that pass in its period,
-- from 1 at the first day or from -1 at the last one.
unfoldable pub matches_positions : Rule → ℕ → Bool
matches_positions rule n =
    allows (λ k. is_nth k (count_before (passes_with rule n) (n + 1)) (count_from (passes_with rule n) n)) rule.pattern.set_positions

-- Day n is a day of the rule if it isn't before the start or after the last day, is in a selected
-- period, passes the months, the weeks and the days, and has a position.
unfoldable pub is_occurrence : Rule → ℕ → Bool
is_occurrence rule n =
    nat_le rule.start n
    && (matches_until rule.until n && ((periods_past rule n == 0) && (passes rule n && matches_positions rule n)))

-- The days of the rule after day n, in ascending order.
abbrev pub occurrences_after : Rule → ℕ → List ℕ
occurrences_after rule n = filter (is_occurrence rule) (days_from (n + 1) (last_day - n))

-- The days of the rule from day n on, in ascending order.
abbrev pub occurrences_from : Rule → ℕ → List ℕ
occurrences_from rule n = filter (is_occurrence rule) (days_from n (last_day + 1 - n))

-- The days of the rule from day m on and before day n, in ascending order.
abbrev pub occurrences_between : Rule → ℕ → ℕ → List ℕ
occurrences_between rule m n = filter (is_occurrence rule) (days_from m (n - m))

-- The days of the rule before day n, from the nearest back.
abbrev pub occurrences_before : Rule → ℕ → List ℕ
occurrences_before rule n = filter (is_occurrence rule) (days_back_from n)

-- All days of the rule, in ascending order.
abbrev pub occurrences : Rule → List ℕ
occurrences rule = filter (is_occurrence rule) (days_from 0 (last_day + 1))

-- A day and the days of the rule after it, or no days.
abbrev pub occurrences_left : Rule → Option ℕ → List ℕ
occurrences_left rule None = []
occurrences_left rule (Some n) = n ∷ occurrences_after rule n
