-- The days that a cursor leaves from a date on, if it leaves all the days after the last one that is
-- counted.
use Rattle.std.proofs.Common.{◌≡◌, ◌∙◌, ap, sym, arith, ℕ, ◌+◌, ◌-◌, ◌<◌, ◌≤◌, filter, nat_le, take, Bool, true, false, Option, Some, None}
use Rattle.std.proofs.lemmas.Bool.Decides.{nat_tests}
use Rattle.std.specs.Ordering.{is_lt, nat_cmp}
use Rattle.cal_time.specs.Date.{last_day}
use Rattle.cal_time.specs.Occurrences.{days_from}
use Rattle.cal_schedule.specs.Rule.{is_occurrence, occurrences_after}
use Rattle.cal_schedule.specs.declared.rule.rule.Rule.{Rule}
use Rattle.cal_schedule.proofs.Rules.{all_from}
use Rattle.cal_recurrence.specs.Cursors.{days_left, days_past}
use Rattle.cal_c.proofs.Walks.{all_late, days_on, filters_commute, late_days}

-- The first day that a cursor can leave.
abbrev pub first_past : Option ℕ → ℕ
first_past None = 0
first_past (Some n) = n + 1

all-past : (rule : Rule) (left : ℕ) (last : Option ℕ) → 1073741824 ≤ left → take left (days_past rule last) ≡ days_past rule last
all-past rule left None h = all_from rule 0 (last_day + 1) left (omega (arith, h))
all-past rule left (Some n) h = all_from rule (n + 1) (last_day - n) left (omega (arith, h))

kept-from : (rule : Rule) (from n count : ℕ) → from ≤ n
    → filter (nat_le from) (filter (is_occurrence rule) (days_from n count)) ≡ filter (is_occurrence rule) (days_from n count)
kept-from rule from n count h =
    filters_commute (nat_le from) (is_occurrence rule) (days_from n count) ∙ ap (filter (is_occurrence rule)) (all_late from n count h)

kept-at : (rule : Rule) (last : Option ℕ) (from : ℕ) → from ≤ first_past last → filter (nat_le from) (days_past rule last) ≡ days_past rule last
kept-at rule None from h = kept-from rule from 0 (last_day + 1) h
kept-at rule (Some n) from h = kept-from rule from (n + 1) (last_day - n) h

-- No day that is left is before the date.
pub kept : (rule : Rule) (left : ℕ) (last : Option ℕ) (from : ℕ) → 1073741824 ≤ left → from ≤ first_past last
    → days_left rule (record { last = last; left = left }) ≡ filter (nat_le from) (days_left rule (record { last = last; left = left }))
kept rule left last from big h =
    let all = all-past rule left last big in all ∙ sym (ap (filter (nat_le from)) all ∙ kept-at rule last from h)

moved-at : (rule : Rule) (last : Option ℕ) (from before : ℕ) → from ≡ before + 1 → before ≤ last_day → first_past last ≤ from
    → filter (nat_le from) (days_past rule last) ≡ occurrences_after rule before
moved-at rule None from before is within h = days_on rule before from is within
moved-at rule (Some n) from before is within h =
    let all : last_day - n ≡ (before - n) + (last_day - before) = omega (arith, is, within, h) in
    let start : from ≡ n + 1 + (before - n) = omega (arith, is, h) in
    filters_commute (nat_le from) (is_occurrence rule) (days_from (n + 1) (last_day - n))
    ∙ ap (λ c. filter (is_occurrence rule) (filter (nat_le from) (days_from (n + 1) c))) all
    ∙ ap (filter (is_occurrence rule)) (late_days (before - n) from (n + 1) (last_day - before) start ∙ ap (λ m. days_from m (last_day - before)) is)

-- The days before the date are passed over.
pub moved : (rule : Rule) (left : ℕ) (last : Option ℕ) (from before : ℕ) → 1073741824 ≤ left → from ≡ before + 1 → before ≤ last_day → first_past last ≤ from
    → days_left rule (record { last = Some before; left = left }) ≡ filter (nat_le from) (days_left rule (record { last = last; left = left }))
moved rule left last from before big is within h =
    all-past rule left (Some before) big ∙ sym (ap (filter (nat_le from)) (all-past rule left last big) ∙ moved-at rule last from before is within h)

-- ---- the last day that is counted and the day before a date
pub none_past : (last : Option ℕ) (from : ℕ) → last ≡ None → first_past last ≤ from
none_past last from e = rw e (omega arith)

less : (a b : ℕ) → is_lt (nat_cmp a b) ≡ true → a < b
less a b e = grind (arith, nat_tests)

not_less : (a b : ℕ) → is_lt (nat_cmp a b) ≡ false → b ≤ a
not_less a b e = grind (arith, nat_tests)

pub later_than : (last : Option ℕ) (from before n : ℕ) (is : Bool) → last ≡ Some n → from ≡ before + 1 → is ≡ is_lt (nat_cmp n before) → is ≡ true
    → first_past last ≤ from
later_than last from before n is e next test past = let lt : n < before = less n before (sym test ∙ past) in rw e (omega (arith, lt, next))

pub not_later_than : (last : Option ℕ) (from before n : ℕ) (is : Bool) → last ≡ Some n → from ≡ before + 1 → is ≡ is_lt (nat_cmp n before) → is ≡ false
    → from ≤ first_past last
not_later_than last from before n is e next test late = let le : before ≤ n = not_less n before (sym test ∙ late) in rw e (omega (arith, le, next))
