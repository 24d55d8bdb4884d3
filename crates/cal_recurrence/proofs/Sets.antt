-- The next and the previous day of a set: the nearest one of a rule or a list that isn't left out.
use Rattle.std.proofs.Common.{◌≡◌, ℕ, suc, ◌+◌, ◌-◌, ◌<◌, ◌≤◌, inl, inr, refl, sym, ap, ◌∙◌, arith, Bool, true, false, ◌&&◌, not, ◌∷◌, filter, slice_get, Option, Some, None}
use Rattle.std.specs.Prelude.{◌||◌, nat_le}
use Rattle.std.specs.Ordering.{nat_cmp}
use Rattle.std.proofs.lemmas.Bool.{cases_lt}
use Rattle.std.proofs.lemmas.Bool.Decides.{nat_tests}
use Rattle.cal_time.specs.Date.{last_day, IsDate}
use Rattle.cal_time.specs.Occurrences.{days_from, days_back_from}
use Rattle.cal_schedule.specs.Previous.{IsPreviousDay, is_previous_day, previous_day}
use Rattle.cal_schedule.specs.Rule.{is_occurrence, occurrences_after, occurrences_before}
use Rattle.cal_schedule.specs.Ranks.{from-no, from-yes}
use Rattle.cal_schedule.specs.declared.rule.rule.Rule.{Rule}
use Rattle.cal_recurrence.specs.Nearest.{is_past, IsFirstPast, IsNearest}
use Rattle.cal_recurrence.specs.Sets.{is_in_set, is_listed, set_days_after, set_days_from, set_days_left, HasEnded}
use Rattle.cal_recurrence.specs.TimeSearch.{IsFirst, IsNext, NoneIn}
use Rattle.cal_recurrence.specs.declared.set.RecurrenceSet.{RecurrenceSet}
use Rattle.cal_recurrence.proofs.FirstNumbers.{first-in_list, first-of_list, list-first, list-none}
use Rattle.cal_recurrence.proofs.NearestValues.{Leaves, after, before, is-after, is-before, up_to, within}

-- ---- the first day after a day, and the last day before it
-- The days after day n as a list of the numbers below the end of the range.
after-count : (test : ℕ → Bool) (n : ℕ) → filter test (days_from (n + 1) (last_day - n)) ≡ filter test (days_from (n + 1) (last_day + 1 - (n + 1)))
after-count test n = let e : last_day - n ≡ last_day + 1 - (n + 1) = omega arith in ap (λ c. filter test (days_from (n + 1) c)) e

pub next_day : (test : ℕ → Bool) (n : ℕ) (r : Option ℕ) → r ≡ slice_get (filter test (days_from (n + 1) (last_day - n))) 0 → IsNext test (n + 1) (last_day + 1) r
next_day test n r e = first-of_list test (n + 1) (last_day + 1) r (e ∙ ap (λ l. slice_get l 0) (after-count test n))

pub is_next_day : (test : ℕ → Bool) (n : ℕ) (r : Option ℕ) → IsNext test (n + 1) (last_day + 1) r → r ≡ slice_get (filter test (days_from (n + 1) (last_day - n))) 0
is_next_day test n r h = first-in_list test (n + 1) (last_day + 1) r h ∙ ap (λ l. slice_get l 0) (sym (after-count test n))

of-next : (test : ℕ → Bool) (n : ℕ) (r : Option ℕ) → IsNext test (n + 1) (last_day + 1) r → IsNearest (is_past nat_cmp true) (λ k. nat_le k last_day && test k) n r
of-next test n None none = λ k late. up_to k last_day (test k) (λ date. none k (omega (arith, is-after n k late)) (omega (arith, date)))
of-next test n (Some x) h = record {
  beyond = after n x (omega (arith, h.not_before));
  passes = rw (within x last_day (omega (arith, h.below)), h.passes) refl;
  none_between = λ k late less. up_to k last_day (test k) (λ _. h.none_before k (omega (arith, is-after n k late)) (is-after k x less));
}

of-previous : (test : ℕ → Bool) (n : ℕ) (r : Option ℕ) → IsPreviousDay test n r → IsNearest (is_past nat_cmp false) test n r
of-previous test n None none = λ k less. none k (is-before n k less)
of-previous test n (Some x) h = record {
  beyond = before n x h.0;
  passes = h.1;
  none_between = λ k less late. h.2 k (is-before k x late) (is-before n k less);
}

pub is_nearest_before : (test : ℕ → Bool) (n : ℕ) (r : Option ℕ) → IsNearest (is_past nat_cmp false) test n r → r ≡ slice_get (filter test (days_back_from n)) 0
is_nearest_before test n None none = is_previous_day test n None (λ k less. none k (before n k less))
is_nearest_before test n (Some x) h = is_previous_day test n (Some x) (is-before n x h.beyond, h.passes, λ k late less. h.none_between k (before n k less) (before k x late))

-- ---- the end of a rule
pub has_ended : (rule : Rule) (n : ℕ) → None ≡ slice_get (occurrences_after rule n) 0 → HasEnded rule n
has_ended rule n none = next_day (is_occurrence rule) n None none

pub no_later_day : (rule : Rule) (n : ℕ) → HasEnded rule n → None ≡ slice_get (occurrences_after rule n) 0
no_later_day rule n over = is_next_day (is_occurrence rule) n None over

pub stays-ended : (rule : Rule) (n k : ℕ) → n ≤ k → HasEnded rule n → HasEnded rule k
stays-ended rule n k later over = λ i low high. over i (omega (arith, later, low)) high

-- A rule has no days if it has none at its start and after it.
before-start : (rule : Rule) (n : ℕ) → n < rule.start → is_occurrence rule n ≡ false
unfolding is_occurrence
before-start rule n less = let late : nat_le rule.start n ≡ false = grind (arith, nat_tests, less) in rw late refl

pub no_days : (rule : Rule) → is_occurrence rule rule.start ≡ false → None ≡ slice_get (occurrences_after rule rule.start) 0
    → NoneIn (is_occurrence rule) 0 (last_day + 1)
no_days rule here later k low high =
    let after = has_ended rule rule.start later in
    elim (cases_lt k rule.start) [
      | inl less ↦ before-start rule k less
      | inr past ↦ elim (cases_lt rule.start k) [
        | inl more ↦ after k (omega (arith, more)) high
        | inr most ↦ let same : rule.start ≡ k = omega (arith, past, most) in ap (is_occurrence rule) (sym same) ∙ here
      ]
    ]

-- ---- the days of a set
-- A day of the range that the rule has.
abbrev pub rule_days : RecurrenceSet → ℕ → Bool
rule_days set n = nat_le n last_day && is_occurrence set.rule n

pub after_rule : (set : RecurrenceSet) (n : ℕ) (r : Option ℕ) → r ≡ slice_get (occurrences_after set.rule n) 0 → IsNearest (is_past nat_cmp true) (rule_days set) n r
after_rule set n r e = of-next (is_occurrence set.rule) n r (next_day (is_occurrence set.rule) n r e)

pub before_rule : (set : RecurrenceSet) (n : ℕ) (r : Option ℕ) → r ≡ slice_get (occurrences_before set.rule n) 0 → IsNearest (is_past nat_cmp false) (is_occurrence set.rule) n r
before_rule set n r e = of-previous (is_occurrence set.rule) n r (previous_day (is_occurrence set.rule) n r e)

-- Such a day, or one of the other days.
abbrev pub next_candidates : RecurrenceSet → ℕ → Bool
next_candidates set n = rule_days set n || is_listed set.dates.now n

-- Such a day that isn't left out.
abbrev pub next_days : RecurrenceSet → ℕ → Bool
next_days set n = next_candidates set n && not (is_listed set.exceptions.now n)

same_day : (set : RecurrenceSet) (n : ℕ) → IsDate n → is_in_set set n ≡ next_days set n
unfolding is_in_set
same_day set n date = rw (within n last_day date) refl

abbrev pub candidates : RecurrenceSet → ℕ → Bool
candidates set n = is_occurrence set.rule n || is_listed set.dates.now n

pub leaves : (set : RecurrenceSet) → Leaves (is_in_set set) (candidates set) (is_listed set.exceptions.now)
unfolding is_in_set
leaves set k = refl

pub first_after : (set : RecurrenceSet) (n x : ℕ) → IsDate x → IsFirstPast (is_past nat_cmp true) (next_days set) n x → IsFirst (is_in_set set) (n + 1) (last_day + 1) x
first_after set n x date h = record {
  not_before = omega (arith, is-after n x h.beyond);
  below = omega (arith, date);
  passes = same_day set x date ∙ h.passes;
  none_before = λ k late less. same_day set k (omega (arith, less, date)) ∙ h.none_between k (after n k (omega (arith, late))) (after k x less);
}

pub none_after : (set : RecurrenceSet) (n : ℕ) → IsNearest (is_past nat_cmp true) (next_days set) n None → None ≡ slice_get (set_days_after set n) 0
none_after set n none = is_next_day (is_in_set set) n None (λ k late date. same_day set k (omega (arith, date)) ∙ none k (after n k (omega (arith, late))))

-- ---- the days left, from the next one on
left_of : (set : RecurrenceSet) (n : ℕ) (r : Option ℕ) → IsNext (is_in_set set) (n + 1) (last_day + 1) r → set_days_left set r ≡ set_days_after set n
left_of set n None none = sym (after-count (is_in_set set) n ∙ list-none (is_in_set set) (n + 1) (last_day + 1) none)
left_of set n (Some x) h =
    ap (λ days. x ∷ days) (after-count (is_in_set set) x)
    ∙ sym (after-count (is_in_set set) n ∙ list-first (is_in_set set) (n + 1) (last_day + 1) x h)

pub left_after : (set : RecurrenceSet) (n : ℕ) (r : Option ℕ) → r ≡ slice_get (set_days_after set n) 0 → set_days_left set r ≡ set_days_after set n
left_after set n r e = left_of set n r (next_day (is_in_set set) n r e)

pub from_here : (set : RecurrenceSet) (n : ℕ) → IsDate n → is_in_set set n ≡ true → set_days_left set (Some n) ≡ set_days_from set n
from_here set n date on =
    let count : last_day + 1 - n ≡ suc (last_day - n) = omega arith in
    sym (ap (λ c. filter (is_in_set set) (days_from n c)) count ∙ from-yes (is_in_set set) n (last_day - n) on)

pub from_next : (set : RecurrenceSet) (n : ℕ) (r : Option ℕ) → IsDate n → is_in_set set n ≡ false → r ≡ slice_get (set_days_after set n) 0 → set_days_left set r ≡ set_days_from set n
from_next set n r date off e =
    let count : last_day + 1 - n ≡ suc (last_day - n) = omega arith in
    left_after set n r e ∙ sym (ap (λ c. filter (is_in_set set) (days_from n c)) count ∙ from-no (is_in_set set) n (last_day - n) off)
