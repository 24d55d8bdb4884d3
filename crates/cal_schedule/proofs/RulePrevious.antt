-- The previous day of a rule: the windows of days, and the end of the search.
use Rattle.std.proofs.Common.{◌≡◌, ℕ, zero, suc, ◌+◌, ◌-◌, ◌*◌, ◌<◌, ◌≤◌, max, min, sym, ap, ◌∙◌, arith, Option, Some, None, true, false, slice_get, subst, inl, inr}
use Rattle.std.specs.Prelude.{nat_le}
use Rattle.std.proofs.lemmas.Bool.{cases_lt, false≢true, le-leb, leb-true}
use Rattle.cal_time.specs.Date.{last_day}
use Rattle.cal_schedule.specs.declared.rule.rule.Rule.{Rule}
use Rattle.cal_schedule.specs.Previous.{is_previous_day}
use Rattle.cal_schedule.specs.Rule.{interval_or_1, is_occurrence, matches_until, occurrences_before}
use Rattle.cal_schedule.specs.RuleSearch.{IsEndBefore, IsLastBetween, NoDayBetween}
use Rattle.cal_schedule.proofs.RulePositions.{IsOn-is_occurrence, is_occurrence-later, is_off}
use Rattle.cal_schedule.proofs.Rules.{before_start, none-joined}

-- No days, also of fewer days.
pub none-within : (rule : Rule) (l m n e : ℕ) → l ≤ m → n ≤ e → NoDayBetween rule l e → NoDayBetween rule m n
none-within rule l m n e low high none = λ k from less. none k (omega arith) (omega arith)

-- The last day is also the last one of more days if no day comes after it.
pub found-joined : (rule : Rule) (l m n e x : ℕ) → l ≤ m → n ≤ e → NoDayBetween rule n e → IsLastBetween rule m n (Some x) → IsLastBetween rule l e (Some x)
found-joined rule l m n e x low high after last = (omega (arith, last.0), omega (arith, last.1), last.2, last.3, none-joined rule (x + 1) n e last.4 after)

-- If no day of the rule is in this many periods before its end, no earlier day is one: it would
-- have one this many periods later. In the first year of the range, periods can be cut.
none_earlier : (rule : Rule) (m e : ℕ) → 1 ≤ interval_or_1 rule → e ≤ last_day + 1 → ((k : ℕ) → k < e → matches_until rule.until k ≡ true)
    → m + 372 + 146097 * interval_or_1 rule ≤ e → NoDayBetween rule m e → (fuel k : ℕ) → m ≤ k + fuel → 372 ≤ k → k < e → is_occurrence rule k ≡ false
none_earlier rule m e some range until room none zero k near low high = none k (omega arith) high
none_earlier rule m e some range until room none (suc fuel) k near low high =
    elim (cases_lt k m) as (λ _. is_occurrence rule k ≡ false) [
      | inl before ↦
          let next = k + 146097 * interval_or_1 rule in
          is_off rule k (λ on. false≢true (sym (none_earlier rule m e some range until room none fuel next (omega arith) (omega arith) (omega arith))
          ∙ is_occurrence-later rule k low (omega arith) (until next (omega arith)) on))
      | inr most ↦ none k most high
    ]

pub none_from_year : (rule : Rule) (e m x : ℕ) → 1 ≤ interval_or_1 rule → e ≤ last_day + 1 → ((k : ℕ) → k < e → matches_until rule.until k ≡ true)
    → m ≡ max rule.start (e - (372 + 146097 * interval_or_1 rule)) → x ≡ min 372 m → NoDayBetween rule m e → NoDayBetween rule x m
none_from_year rule e m x some range until first rest none = λ k low high.
    elim (cases_lt k rule.start) as (λ _. is_occurrence rule k ≡ false) [
      | inl before ↦ before_start rule 0 k (omega arith) before
      | inr most ↦ none_earlier rule m e some range until (omega arith) none m k (omega arith) (omega arith) (omega arith)
    ]

-- The search of the first year, after the search of this many periods.
pub previous_rest : (rule : Rule) (n e m x : ℕ) (r : Option ℕ) → 1 ≤ interval_or_1 rule → IsEndBefore rule n e → m ≡ max rule.start (e - (372 + 146097 * interval_or_1 rule)) → x ≡ min 372 m
    → IsLastBetween rule m e None → IsLastBetween rule rule.start x r → IsLastBetween rule rule.start n r
previous_rest rule n e m x None some end first rest none last =
    none-joined rule rule.start x n last (none-joined rule x m n
    (none_from_year rule e m x some (omega (arith, end.most, end.range)) end.until first rest none) (none-joined rule m e n none end.none))
previous_rest rule n e m x (Some y) some end first rest none last = (
  last.0,
  omega (arith, last.0, last.1, end.most),
  last.2,
  last.3,
  none-joined rule (y + 1) x n last.4 (none-joined rule x m n
      (none_from_year rule e m x some (omega (arith, end.most, end.range)) end.until first rest none) (none-joined rule m e n none end.none)),
)

-- the list of the days before a day, from the last of them
pub previous_is : (rule : Rule) (n : ℕ) (r : Option ℕ) → IsLastBetween rule rule.start n r → r ≡ slice_get (occurrences_before rule n) 0
previous_is rule n None none =
    is_previous_day (is_occurrence rule) n None (λ k less. none-joined rule 0 rule.start n (before_start rule 0) none k (omega arith) less)
previous_is rule n (Some x) last = is_previous_day (is_occurrence rule) n (Some x) (last.1, last.3, λ k late less. last.4 k (omega arith) less)

-- the end of the search by the end of the rule
pub end_by : (rule : Rule) (n last e : ℕ) → n ≤ last_day + 1 → rule.until ≡ Some last → e ≡ min n (last + 1) → IsEndBefore rule n e
end_by rule n last e date is end =
    let by : (k : ℕ) → matches_until rule.until k ≡ nat_le k last = λ k. ap (λ u. matches_until u k) is in
    record {
      range = date;
      most = omega arith;
      none = λ k low high. is_off rule k (λ on. omega (arith, leb-true k last (sym (by k) ∙ (IsOn-is_occurrence rule k on).by)));
      until = λ k less. by k ∙ le-leb k last (omega arith);
    }

-- the same at an equal number
pub end_at : (rule : Rule) (m n e : ℕ) → m ≡ n → IsEndBefore rule m e → IsEndBefore rule n e
end_at rule m n e same = subst (λ k. IsEndBefore rule k e) same
