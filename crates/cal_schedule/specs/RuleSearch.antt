-- The steps of the search for the next day of a rule.
use Rattle.std.specs.Prelude.{◌≡◌, ℕ, ◌+◌, ◌<◌, ◌≤◌, ◌==◌, Bool, true, false, [], ◌∷◌, ◌++◌, take, Option, Some, MatchOption, Result, MatchResult}
use Rattle.cal_time.specs.Date.{last_day, weekday_at, IsDate}
use Rattle.cal_time.specs.Weekday.{index}
use Rattle.cal_time.specs.declared.Weekday.{Weekday}
use Rattle.cal_schedule.specs.declared.rule.rule.ByDay.{ByDay}
use Rattle.cal_schedule.specs.declared.rule.rule.ByDay.TheVariants.{Every, Nth}
use Rattle.cal_schedule.specs.declared.rule.rule.Rule.{Rule}
use Rattle.cal_schedule.specs.declared.rule.unit.PeriodUnit.{PeriodUnit}
use Rattle.cal_schedule.specs.Rule.{allows, is_occurrence, matches_until, occurrences_between, occurrences_left, passes, period_index, unit_of}

-- No day of the rule is from day m on and before day n.
abbrev pub NoDayBetween : Rule → ℕ → ℕ → Type 0
NoDayBetween rule m n = (k : ℕ) → m ≤ k → k < n → is_occurrence rule k ≡ false

-- The weekday of a value of `BYDAY`, without its number.
abbrev pub by_day_weekday : ByDay → Weekday
by_day_weekday (Every w) = w
by_day_weekday (Nth k w) = w

-- A weekday has a number.
abbrev pub has_number : ByDay → Bool
has_number (Every w) = false
has_number (Nth k w) = true

-- The rule allows days with the weekday at this index, with any number.
abbrev pub may_fall_on : Rule → ℕ → Bool
may_fall_on rule at = allows (λ by. at == index (by_day_weekday by)) rule.pattern.weekdays

-- A day passes by its weekday alone.
abbrev pub PassesByWeekday : Rule → Type 0
PassesByWeekday rule = (n : ℕ) → passes rule n ≡ may_fall_on rule (weekday_at n)

-- r is the first day of the range in period t or a later one. If r is `None`, all days of the range
-- are in earlier periods.
abbrev pub IsFirstOfPeriod : PeriodUnit → ℕ → Option ℕ → Type 0
IsFirstOfPeriod u t r =
    MatchOption r ((k : ℕ) → IsDate k → period_index u k < t) (λ x. IsDate x × (t ≤ period_index u x) × ((k : ℕ) → k < x → period_index u k < t))

-- Day s is the first day of the range in the period of day n.
pub record IsPeriodStart (rule : Rule) (n s : ℕ) : Type 0 where
  pub first : s ≤ n
  pub before : (k : ℕ) → k < s
      → period_index (unit_of rule) k < period_index (unit_of rule) n
  pub from : (k : ℕ) → s ≤ k
      → period_index (unit_of rule) n ≤ period_index (unit_of rule) k

-- Day e is the day after the last day of the range in the period of day n.
pub record IsPeriodEnd (rule : Rule) (n e : ℕ) : Type 0 where
  pub last : n < e
  pub range : e ≤ last_day + 1
  pub within : (k : ℕ) → k < e
      → period_index (unit_of rule) k ≤ period_index (unit_of rule) n
  pub after : (k : ℕ) → e ≤ k → IsDate k
      → period_index (unit_of rule) n < period_index (unit_of rule) k

-- No day from day m on and before day n passes.
abbrev pub NonePass : Rule → ℕ → ℕ → Type 0
NonePass rule m n = (k : ℕ) → m ≤ k → k < n → passes rule k ≡ false

-- r is a day after day n, and no day between them passes. If r is `None`, no day after day n
-- passes.
abbrev pub IsCandidate : Rule → ℕ → Option ℕ → Type 0
IsCandidate rule n r = MatchOption r (NonePass rule (n + 1) (last_day + 1)) (λ x. (n < x) × IsDate x × NonePass rule (n + 1) x)

-- r is a day after day n to go on with: no day of the rule is from day n on and before r. If r is
-- `None`, the rule has no day from day n on.
abbrev pub IsSkip : Rule → ℕ → Option ℕ → Type 0
IsSkip rule n r = MatchOption r (NoDayBetween rule n (last_day + 1)) (λ x. (n < x) × IsDate x × NoDayBetween rule n x)

-- r is the first day of the rule from day n on, or a day to go on with, or `None` if the rule has
-- no day from day n on.
abbrev pub IsStep : Rule → ℕ → Result ℕ (Option ℕ) → Type 0
IsStep rule n r = MatchResult r (λ x. (n ≤ x) × IsDate x × (is_occurrence rule x ≡ true) × NoDayBetween rule n x) (IsSkip rule n)

-- r is the first day of the rule from day n on. If r is `None`, no day of the rule is from day n on
-- and before day e.
abbrev pub IsNextBefore : Rule → ℕ → ℕ → Option ℕ → Type 0
IsNextBefore rule n e r =
    MatchOption r ((k : ℕ) → n ≤ k → k < e → IsDate k → is_occurrence rule k ≡ false)
    (λ x. (n ≤ x) × IsDate x × (is_occurrence rule x ≡ true) × NoDayBetween rule n x)

-- r is the first day of the rule from day n on, or `None` if there is none.
abbrev pub IsNextFrom : Rule → ℕ → Option ℕ → Type 0
IsNextFrom rule n r =
    MatchOption r (NoDayBetween rule n (last_day + 1)) (λ x. (n ≤ x) × IsDate x × (is_occurrence rule x ≡ true) × NoDayBetween rule n x)

-- Day e is day n, or the day after the last day of the rule if this is earlier.
pub record IsEndBefore (rule : Rule) (n e : ℕ) : Type 0 where
  pub range : n ≤ last_day + 1
  pub most : e ≤ n
  pub none : NoDayBetween rule e n
  pub until : (k : ℕ) → k < e → matches_until rule.until k ≡ true

-- r is the last day of the rule from day m on and before day n, or `None` without one.
abbrev pub IsLastBetween : Rule → ℕ → ℕ → Option ℕ → Type 0
IsLastBetween rule m n r =
    MatchOption r (NoDayBetween rule m n) (λ x. (m ≤ x) × (x < n) × IsDate x × (is_occurrence rule x ≡ true) × NoDayBetween rule (x + 1) n)

-- Day x is the last of the first days of the rule from day n on, at most `count`, and the others
-- are the days before it. Day n is the first of them.
pub record IsLastOfWalk (rule : Rule) (n count x : ℕ) : Type 0 where
  pub low : n ≤ x
  pub passes : is_occurrence rule x ≡ true
  pub days : take count (occurrences_left rule (Some n)) ≡ occurrences_between rule n x ++ x ∷ []
