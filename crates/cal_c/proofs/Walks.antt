-- The days of a rule from a date on are its days after the previous day.
use Rattle.std.proofs.Common.{◌≡◌, refl, ℕ, zero, suc, ◌+◌, ◌-◌, ◌<◌, ◌≤◌, ap, ◌∙◌, arith, Bool, true, false, List, [], ◌∷◌, filter, nat_le}
use Rattle.std.proofs.lemmas.Bool.Decides.{nat_tests}
use Rattle.cal_time.specs.Date.{last_day}
use Rattle.cal_time.specs.Occurrences.{days_from}
use Rattle.cal_schedule.specs.Rule.{occurrences_after, occurrences, is_occurrence}
use Rattle.cal_schedule.specs.declared.rule.rule.Rule.{Rule}

-- two filters, in either order
commute-at : (p q : ℕ → Bool) (x : ℕ) (xs : List ℕ) (a b : Bool) → p x ≡ a → q x ≡ b → filter p (filter q xs) ≡ filter q (filter p xs)
    → filter p (filter q (x ∷ xs)) ≡ filter q (filter p (x ∷ xs))
commute-at p q x xs true true e f ih = rw (e, f) (rw e (ap (λ l. x ∷ l) ih))
commute-at p q x xs true false e f ih = rw (e, f) ih
commute-at p q x xs false true e f ih = rw (e, f) (rw e ih)
commute-at p q x xs false false e f ih = rw (e, f) ih

pub filters_commute : (p q : ℕ → Bool) (xs : List ℕ) → filter p (filter q xs) ≡ filter q (filter p xs)
filters_commute p q [] = refl
filters_commute p q (x ∷ xs) = commute-at p q x xs (p x) (q x) refl refl (filters_commute p q xs)

-- of days one after the other, those that do not come before day k
pub all_late : (k n count : ℕ) → k ≤ n → filter (nat_le k) (days_from n count) ≡ days_from n count
unfolding days_from
all_late k n zero h = refl
all_late k n (suc count) h =
    let late : nat_le k n ≡ true = grind (arith, nat_tests) in
    rw late (ap (λ l. n ∷ l) (all_late k (n + 1) count (omega arith)))

first_early : (k n count : ℕ) → n < k → filter (nat_le k) (days_from n (suc count)) ≡ filter (nat_le k) (days_from (n + 1) count)
unfolding days_from
first_early k n count h = let early : nat_le k n ≡ false = grind (arith, nat_tests) in rw early refl

pub late_days : (d k n count : ℕ) → k ≡ n + d → filter (nat_le k) (days_from n (d + count)) ≡ days_from k count
late_days zero k n count e =
    let start : n ≡ k = omega arith in
    let all : zero + count ≡ count = omega arith in
    ap (λ c. filter (nat_le k) (days_from n c)) all ∙ all_late k n count (omega arith) ∙ ap (λ m. days_from m count) start
late_days (suc d) k n count e =
    let all : suc d + count ≡ suc (d + count) = omega arith in
    ap (λ c. filter (nat_le k) (days_from n c)) all ∙ first_early k n (d + count) (omega arith) ∙ late_days d k (n + 1) count (omega arith)

pub days_on : (rule : Rule) (n k : ℕ) → k ≡ n + 1 → n ≤ last_day → filter (nat_le k) (occurrences rule) ≡ occurrences_after rule n
days_on rule n k e h =
    let all : last_day + 1 ≡ k + (last_day - n) = omega arith in
    filters_commute (nat_le k) (is_occurrence rule) (days_from 0 (last_day + 1))
    ∙ ap (λ c. filter (is_occurrence rule) (filter (nat_le k) (days_from 0 c))) all
    ∙ ap (filter (is_occurrence rule)) (late_days k k 0 (last_day - n) (omega arith) ∙ ap (λ m. days_from m (last_day - n)) e)
