-- Recurrence sets of days: the days of a rule and of `RDATE`, without the days of `EXDATE`
-- (RFC 5545).
use Rattle.std.specs.Prelude.{ℕ, ◌+◌, ◌-◌, ◌==◌, ◌&&◌, ◌||◌, Bool, not, List, [], ◌∷◌, filter, Option, Some, None}
use Rattle.std.specs.List.{list_any}
use Rattle.cal_time.specs.Date.{last_day}
use Rattle.cal_time.specs.Occurrences.{days_from, days_back_from}
use Rattle.cal_schedule.specs.Rule.{is_occurrence}
use Rattle.cal_schedule.specs.declared.rule.rule.Rule.{Rule}
use Rattle.cal_recurrence.specs.TimeSearch.{NoneIn}
use Rattle.cal_recurrence.specs.declared.set.RecurrenceSet.{RecurrenceSet}

-- Day n is in a list.
abbrev pub is_listed : List ℕ → ℕ → Bool
is_listed days n = list_any (λ d. d == n) days

-- Day n is a day of the rule or one of the other days, and isn't left out.
unfoldable pub is_in_set : RecurrenceSet → ℕ → Bool
is_in_set set n = (is_occurrence set.rule n || is_listed set.dates.now n) && not (is_listed set.exceptions.now n)

-- The rule has no day after day n.
abbrev pub HasEnded : Rule → ℕ → Type 0
HasEnded rule n = NoneIn (is_occurrence rule) (n + 1) (last_day + 1)

-- The days of the set from day n on, in ascending order.
abbrev pub set_days_from : RecurrenceSet → ℕ → List ℕ
set_days_from set n = filter (is_in_set set) (days_from n (last_day + 1 - n))

-- The days of the set after day n, in ascending order.
abbrev pub set_days_after : RecurrenceSet → ℕ → List ℕ
set_days_after set n = filter (is_in_set set) (days_from (n + 1) (last_day - n))

-- The days of the set before day n, from the nearest back.
abbrev pub set_days_before : RecurrenceSet → ℕ → List ℕ
set_days_before set n = filter (is_in_set set) (days_back_from n)

-- A day of the set and the days after it, or no days.
abbrev pub set_days_left : RecurrenceSet → Option ℕ → List ℕ
set_days_left set None = []
set_days_left set (Some n) = n ∷ set_days_after set n
