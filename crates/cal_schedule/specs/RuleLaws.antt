-- The periods and the numbers of weekdays of a rule, by a count of the days. The three records
-- about a count are laws, proved by functions of `laws`.
use Rattle.std.specs.Prelude.{◌≡◌, ℕ, ◌+◌, ◌%◌, ◌≤◌, ◌↔◌, true, false, ⊤, pos, negsuc, ◌+ℤ◌, ◌-ℤ◌}
use Rattle.cal_time.specs.Date.{first_year, year_at, month_at, day_of_month_at, weekday_at, IsDate}
use Rattle.cal_time.specs.Weekday.{index}
use Rattle.cal_time.specs.declared.Weekday.{Weekday}
use Rattle.cal_schedule.specs.Rule.{is_nth_weekday, is_week, period_index}
use Rattle.cal_schedule.specs.Weekdays.{IsNthWeekday, IsLastWeekday, IsNthWeekdayFromEnd, IsNthWeekdayOfYear, IsNthWeekdayOfYearFromEnd}
use Rattle.cal_schedule.specs.declared.rule.unit.PeriodUnit.{PeriodUnit}
use Rattle.cal_schedule.specs.declared.rule.unit.PeriodUnit.TheVariants as unit

-- Day n begins a period: a day, a week on the weekday `first`, a month on its first day, a year on
-- 1 January, or a year of weeks on the first day of its first week.
abbrev pub BeginsPeriod : PeriodUnit → ℕ → Type 0
BeginsPeriod unit.Day n = ⊤
BeginsPeriod (unit.Week first) n = weekday_at n ≡ index first
BeginsPeriod unit.Month n = day_of_month_at n ≡ 1
BeginsPeriod unit.Year n = (month_at n ≡ 1) × (day_of_month_at n ≡ 1)
BeginsPeriod (unit.WeekYear first) n = (weekday_at n ≡ index first) × (is_week first n (pos 1) ≡ true)

-- From day n to the next day, the index of the period rises by 1 exactly if the next day begins a
-- period, else it stays.
pub record RisesAtBeginning (u : PeriodUnit) (n : ℕ) : Type 0 where
  pub rises : (period_index u (n + 1) ≡ period_index u n + 1) ↔ BeginsPeriod u (n + 1)
  pub stays : (period_index u (n + 1) ≡ period_index u n) ↔ ¬ BeginsPeriod u (n + 1)

-- Day n is the k-th of its weekday in its month or year exactly if there are k such days up to it,
-- or from it on if counted from the end. `negsuc k` is the (k + 1)-th from the end, so `negsuc 0`
-- is the last.
pub record NumbersByCount (n : ℕ) : Type 0 where
  pub of_month : (k : ℕ) → (is_nth_weekday false n (pos k) ≡ true) ↔ IsNthWeekday (year_at n) (month_at n) (weekday_at n) k n
  pub of_month_from_end : (k : ℕ)
      → (is_nth_weekday false n (negsuc k) ≡ true) ↔ IsNthWeekdayFromEnd (year_at n) (month_at n) (weekday_at n) (k + 1) n
  pub last_of_month : (is_nth_weekday false n (negsuc 0) ≡ true) ↔ IsLastWeekday (year_at n) (month_at n) (weekday_at n) n
  pub of_year : (k : ℕ) → (is_nth_weekday true n (pos k) ≡ true) ↔ IsNthWeekdayOfYear (year_at n) (weekday_at n) k n
  pub of_year_from_end : (k : ℕ)
      → (is_nth_weekday true n (negsuc k) ≡ true) ↔ IsNthWeekdayOfYearFromEnd (year_at n) (weekday_at n) (k + 1) n

-- Day d is the fourth day of the week of day n, if weeks begin on the weekday `first`: it has the
-- weekday three days after `first`, and is at most three days from day n.
pub record IsFourthDay (first : Weekday) (n d : ℕ) : Type 0 where
  pub weekday : weekday_at d ≡ (index first + 3) % 7
  pub latest : d ≤ n + 3
  pub earliest : n ≤ d + 3

-- The week of day n has the year of its fourth day. It is the k-th of this year if the fourth day is
-- the k-th with its weekday there, by a count of the days from the start or the end of the year.
pub record WeeksByCount (first : Weekday) (n : ℕ) : Type 0 where
  pub year : (d : ℕ) → IsFourthDay first n d → pos (period_index (unit.WeekYear first) n) ≡ year_at d -ℤ first_year +ℤ pos 1
  pub week : (d : ℕ) → IsDate d → IsFourthDay first n d → (k : ℕ)
      → (is_week first n (pos k) ≡ true) ↔ IsNthWeekdayOfYear (year_at d) (weekday_at d) k d
  pub week_from_end : (d : ℕ) → IsDate d → IsFourthDay first n d → (k : ℕ)
      → (is_week first n (negsuc k) ≡ true) ↔ IsNthWeekdayOfYearFromEnd (year_at d) (weekday_at d) (k + 1) d
