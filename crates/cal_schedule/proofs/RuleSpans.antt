-- The days of a rule between two days, by a rule that ends earlier.
use Rattle.std.proofs.Common.{◌≡◌, ℕ, zero, suc, ◌+◌, ◌-◌, ◌<◌, ◌≤◌, sym, ap, ◌∙◌, arith, Bool, false, ◌&&◌, filter, Option, Some, [], ◌∷◌, inl, inr}
use Rattle.std.specs.Prelude.{◌==◌, nat_le}
use Rattle.std.proofs.lemmas.Bool.{cases_Bool, cases_lt, leb-true, le-leb}
use Rattle.cal_time.specs.Date.{last_day}
use Rattle.cal_time.specs.Filters.{filter-none}
use Rattle.cal_time.specs.Occurrences.{days_from}
use Rattle.cal_schedule.specs.Pattern.{rule_of}
use Rattle.cal_schedule.specs.Ranks.{from-no, from-yes}
use Rattle.cal_schedule.specs.declared.rule.pattern.Pattern.{Pattern}
use Rattle.cal_schedule.specs.declared.rule.rule.Rule.{Rule}
use Rattle.cal_schedule.specs.Rule.{is_occurrence, matches_days, matches_months, matches_positions, matches_until, matches_weeks, occurrences_between, occurrences_from, passes, periods_past, unit_of}
use Rattle.cal_schedule.specs.RuleSearch.{IsEndBefore}
use Rattle.cal_schedule.proofs.RulePositions.{IsOn-is_occurrence, is_off}

-- Of two rules that differ in their ends, both take a day if both ends allow it.
pub by_until : (pattern : Pattern) (start k : ℕ) (s t : Option ℕ) → matches_until s k ≡ matches_until t k → is_occurrence (rule_of pattern start s) k ≡ is_occurrence (rule_of pattern start t) k
unfolding is_occurrence periods_past passes matches_months matches_weeks matches_days matches_positions unit_of
by_until pattern start k s t e =
    let rule = rule_of pattern start t in
    ap (λ b. nat_le start k && (b && ((periods_past rule k == 0) && (passes rule k && matches_positions rule k)))) e

-- Two tests agree on the days before an end, and no later day passes the first.
until_end : (p q : ℕ → Bool) (n a b : ℕ) → a ≤ b → ((k : ℕ) → n ≤ k → k < n + a → p k ≡ q k) → ((k : ℕ) → n + a ≤ k → p k ≡ false)
    → filter p (days_from n b) ≡ filter q (days_from n a)
until_end p q n zero b h same none = filter-none p n b (λ k low high. none k (omega arith)) ∙ sym (filter-none q n 0 (λ k low high. absurd (omega arith)))
until_end p q n (suc a) zero h same none = absurd (omega arith)
until_end p q n (suc a) (suc b) h same none =
    let rest = until_end p q (n + 1) a b (omega arith) (λ k low less. same k (omega arith) (omega arith)) (λ k low. none k (omega arith)) in
    let here = same n (omega arith) (omega arith) in
    elim (cases_Bool (q n)) as (λ _. filter p (days_from n (suc b)) ≡ filter q (days_from n (suc a))) [
      | inl on ↦ from-yes p n b (here ∙ on) ∙ ap (λ days. n ∷ days) rest ∙ sym (from-yes q n a on)
      | inr off ↦ from-no p n b (here ∙ off) ∙ rest ∙ sym (from-no q n a off)
    ]

pub between_is : (rule : Rule) (m n e last : ℕ) → IsEndBefore rule n e → 1 ≤ e → last ≡ e - 1
    → occurrences_from (rule_of rule.pattern rule.start (Some last)) m ≡ occurrences_between rule m n
between_is rule m n e last end some is =
    let sooner = rule_of rule.pattern rule.start (Some last) in
    let past : (k : ℕ) → e ≤ k → is_occurrence sooner k ≡ false = λ k low.
    is_off sooner k (λ on. omega (arith, leb-true k last (IsOn-is_occurrence sooner k on).by)) in
    until_end (is_occurrence sooner) (is_occurrence rule) m (n - m) (last_day + 1 - m) (omega (arith, end.range))
    (λ k low less. elim (cases_lt k e) as (λ _. is_occurrence sooner k ≡ is_occurrence rule k) [
      | inl within ↦ by_until rule.pattern rule.start k (Some last) rule.until (le-leb k last (omega arith) ∙ sym (end.until k within))
      | inr most ↦ past k most ∙ sym (end.none k most (omega arith))
    ])
    (λ k low. past k (omega (arith, end.most)))

pub none_between : (rule : Rule) (m n e : ℕ) → IsEndBefore rule n e → e ≡ 0 → [] ≡ occurrences_between rule m n
none_between rule m n e end is = sym (filter-none (is_occurrence rule) m (n - m) (λ k low high. end.none k (omega arith) (omega arith)))
