-- Sets of days by their rule and the values of their lists.
use Rattle.std.proofs.Common.{◌≡◌, ℕ, ℤ, ◌+◌, ◌-◌, ap, refl, sym, subst, ◌∙◌, Bool, true, false, ◌&&◌, not, List, [], filter}
use Rattle.std.specs.Prelude.{◌||◌}
use Rattle.cal_time.specs.Date.{last_day}
use Rattle.cal_time.specs.Occurrences.{days_from}
use Rattle.cal_schedule.specs.Rule.{is_occurrence, occurrences_after}
use Rattle.cal_schedule.specs.declared.rule.rule.Rule.{Rule}
use Rattle.cal_recurrence.specs.Sets.{is_in_set, is_listed, set_days_after}
use Rattle.cal_recurrence.specs.declared.set.RecurrenceSet.{RecurrenceSet}
use Rattle.cal_c.specs.Recurrences.{AreDatesWritten}

-- Two sets with the same rule and lists have the same days, wherever the lists are.
pub same_days : (s t : RecurrenceSet) → s.rule ≡ t.rule → s.dates.now ≡ t.dates.now → s.exceptions.now ≡ t.exceptions.now → is_in_set s ≡ is_in_set t
unfolding is_in_set
same_days s t rule dates exceptions = λ i n. (is_occurrence (rule i) n || is_listed (dates i) n) && not (is_listed (exceptions i) n)

alone : (b : Bool) → ((b || false) && true) ≡ b
alone true = refl
alone false = refl

only_rule : (s : RecurrenceSet) → s.dates.now ≡ [] → s.exceptions.now ≡ [] → is_in_set s ≡ is_occurrence s.rule
unfolding is_in_set
only_rule s dates exceptions = λ i n. ((λ k. (is_occurrence s.rule n || is_listed (dates k) n) && not (is_listed (exceptions k) n)) ∙ alone (is_occurrence s.rule n)) i

-- A set without other dates and exceptions has the days of its rule.
pub rule_days : (s : RecurrenceSet) (n count : ℕ) (old new : List ℤ) → s.dates.now ≡ [] → s.exceptions.now ≡ []
    → AreDatesWritten (set_days_after s n) old new count → AreDatesWritten (occurrences_after s.rule n) old new count
rule_days s n count old new dates exceptions =
    subst (λ test. AreDatesWritten (filter test (days_from (n + 1) (last_day - n))) old new count) (only_rule s dates exceptions)

-- The set of a rule without other dates and exceptions has the days of the rule.
pub in_rule : (s : RecurrenceSet) (rule : Rule) → rule ≡ s.rule → s.dates.now ≡ [] → s.exceptions.now ≡ [] → is_occurrence rule ≡ is_in_set s
in_rule s rule is dates exceptions = ap is_occurrence is ∙ sym (only_rule s dates exceptions)
