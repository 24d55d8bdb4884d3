-- The last day of a walk over the days of a rule, and the days before it.
use Rattle.std.proofs.Common.{◌≡◌, ℕ, zero, suc, ◌+◌, ◌-◌, ◌<◌, ◌≤◌, refl, sym, ap, ◌∙◌, arith, Bool, true, false, filter, slice_get, take, Option, Some, None, [], ◌∷◌, ◌++◌, inl, inr}
use Rattle.std.specs.Prelude.{IfSome, SomeIff}
use Rattle.std.specs.Option.{unwrap_or}
use Rattle.std.proofs.lemmas.Bool.{cases_Bool, false≢true, le-leb}
use Rattle.std.proofs.lemmas.List.{append_assoc, take_all}
use Rattle.cal_time.specs.Date.{last_day, IsDate}
use Rattle.cal_time.specs.Filters.{filter-none, first_matching}
use Rattle.cal_time.specs.Occurrences.{days_from}
use Rattle.cal_schedule.specs.Pattern.{rule_of}
use Rattle.cal_schedule.specs.Ranks.{from-no, from-yes}
use Rattle.cal_schedule.specs.declared.rule.rule.Rule.{Rule}
use Rattle.cal_schedule.specs.Rule.{is_occurrence, occurrences_after, occurrences_between, occurrences_from, occurrences_left}
use Rattle.cal_schedule.specs.RuleSearch.{IsEndBefore, IsLastBetween, IsLastOfWalk, NoDayBetween}
use Rattle.cal_schedule.proofs.RulePeriods.{matches_until-earlier}
use Rattle.cal_schedule.proofs.RulePositions.{IsOn-is_occurrence}
use Rattle.cal_schedule.proofs.Rules.{all_from, left_after, left_from, none-joined, none_empty, some_left}
use Rattle.cal_schedule.proofs.RuleSpans.{between_is, by_until}

-- Of the days that pass a test, the last one comes after the days before it.
filter-last : (test : ℕ → Bool) (n a b : ℕ) → a < b → test (n + a) ≡ true → ((k : ℕ) → n + a < k → k < n + b → test k ≡ false)
    → filter test (days_from n b) ≡ filter test (days_from n a) ++ (n + a) ∷ []
filter-last test n a zero less on none = absurd (omega arith)
filter-last test n zero (suc b) less on none =
    let e : n + 0 ≡ n = omega arith in
    from-yes test n b (ap test (sym e) ∙ on) ∙ ap (λ days. n ∷ days) (filter-none test (n + 1) b (λ k low high. none k (omega arith) (omega arith)))
    ∙ ap (λ m. m ∷ []) (sym e) ∙ ap (λ days. days ++ (n + 0) ∷ []) (sym (filter-none test n 0 (λ k low high. absurd (omega arith))))
filter-last test n (suc a) (suc b) less on none =
    let e : n + 1 + a ≡ n + suc a = omega arith in
    let rest = filter-last test (n + 1) a b (omega arith) (ap test e ∙ on) (λ k low high. none k (omega arith) (omega arith))
    ∙ ap (λ m. filter test (days_from (n + 1) a) ++ m ∷ []) e in
    elim (cases_Bool (test n)) as (λ _. filter test (days_from n (suc b)) ≡ filter test (days_from n (suc a)) ++ (n + suc a) ∷ []) [
      | inl hit ↦ from-yes test n b hit ∙ ap (λ days. n ∷ days) rest ∙ ap (λ days. days ++ (n + suc a) ∷ []) (sym (from-yes test n a hit))
      | inr miss ↦ from-no test n b miss ∙ rest ∙ ap (λ days. days ++ (n + suc a) ∷ []) (sym (from-no test n a miss))
    ]

between-last : (rule : Rule) (n x y : ℕ) → n ≤ x → x < y → is_occurrence rule x ≡ true → NoDayBetween rule (x + 1) y
    → occurrences_between rule n y ≡ occurrences_between rule n x ++ x ∷ []
between-last rule n x y low less on none =
    let e : n + (x - n) ≡ x = omega arith in
    filter-last (is_occurrence rule) n (x - n) (y - n) (omega arith) (ap (is_occurrence rule) e ∙ on) (λ k after high. none k (omega arith) (omega arith))
    ∙ ap (λ m. occurrences_between rule n x ++ m ∷ []) e

-- The days that are left from a day of the rule on.
left_from-day : (rule : Rule) (n : ℕ) → IsDate n → is_occurrence rule n ≡ true → occurrences_left rule (Some n) ≡ occurrences_from rule n
left_from-day rule n date on =
    let none = none_empty rule n n (omega arith) in left_from rule n (last_day + 1 - n) n (Some n) refl (omega arith) none (omega arith, date, on, none)

-- The search from the end of the rule.
pub last_back : (rule : Rule) (n e count : ℕ) (r : Option ℕ) → IsDate n → is_occurrence rule n ≡ true → last_day < count
    → IsEndBefore rule (last_day + 1) e → IsLastBetween rule n e r → IsLastOfWalk rule n count (unwrap_or r n)
last_back rule n e count None date on all end none =
    absurd (false≢true (sym (none-joined rule n e (last_day + 1) none end.none n (omega arith) (omega arith)) ∙ on))
last_back rule n e count (Some x) date on all end last = record {
  low = last.0;
  passes = last.3;
  days = ap (take count) (left_from-day rule n date on) ∙ all_from rule n (last_day + 1 - n) count (omega arith)
      ∙ between-last rule n x (last_day + 1) last.0 (omega (arith, last.2)) last.3 (none-joined rule (x + 1) e (last_day + 1) last.4 end.none);
}

-- The days of a walk are those before day x, and `left` days from day x on.
pub record IsReached (rule : Rule) (n count x left : ℕ) : Type 0 where
  pub some : 1 ≤ left
  pub low : n ≤ x
  pub passes : is_occurrence rule x ≡ true
  pub days : take count (occurrences_left rule (Some n)) ≡ occurrences_between rule n x ++ take left (occurrences_left rule (Some x))

pub reached-first : (rule : Rule) (n count : ℕ) → 1 ≤ count → is_occurrence rule n ≡ true → IsReached rule n count n count
reached-first rule n count some on = record {
  some = some;
  low = omega arith;
  passes = on;
  days = ap (λ days. days ++ take count (occurrences_left rule (Some n))) (sym (filter-none (is_occurrence rule) n (n - n) (λ k low high. absurd (omega arith))));
}

pub reached-next : (rule : Rule) (n count x y left : ℕ) → 1 < left → Some y ≡ slice_get (occurrences_after rule x) 0 → IsReached rule n count x left
    → is_occurrence rule y ≡ true → IsReached rule n count y (left - 1)
reached-next rule n count x y left more e at on =
    let next = first_matching (is_occurrence rule) (x + 1) (last_day - x) (Some y) e in
    let rest = take (left - 1) (occurrences_left rule (Some y)) in
    record {
      some = omega arith;
      low = omega (arith, at.low, next.not_before);
      passes = on;
      days = at.days ∙ ap (λ days. occurrences_between rule n x ++ days) (some_left rule x left (Some y) (λ none. omega arith) e)
          ∙ sym (append_assoc (occurrences_between rule n x) (x ∷ []) rest)
          ∙ ap (λ days. days ++ rest) (sym (between-last rule n x y at.low (omega (arith, next.not_before)) at.passes next.none_before));
    }

pub reached-last : (rule : Rule) (n count x left : ℕ) → None ≡ slice_get (occurrences_after rule x) 0 → IsReached rule n count x left → IsLastOfWalk rule n count x
reached-last rule n count x left e at = record {
  low = at.low;
  passes = at.passes;
  days = at.days ∙ ap (λ days. occurrences_between rule n x ++ take left (x ∷ days)) (sym (left_after rule x None e))
      ∙ ap (λ days. occurrences_between rule n x ++ days) (take_all left (x ∷ []) at.some);
}

-- The days before the last one are all days of the rule that ends before it.
pub none-before : (rule : Rule) (n x left : ℕ) → x ≡ n → occurrences_between rule n x ≡ take left []
none-before rule n x left e = filter-none (is_occurrence rule) n (x - n) (λ k low high. absurd (omega arith)) ∙ sym (take_all left [] (omega arith))

pub on-sooner : (rule : Rule) (n x : ℕ) (front until : Option ℕ) → front ≡ Some n → IfSome front (λ m. is_occurrence rule m ≡ true)
    → SomeIff until (0 < x) (x - 1) → n < x → IfSome front (λ m. is_occurrence (rule_of rule.pattern rule.start until) m ≡ true)
on-sooner rule n x None until e on sooner less = tt
on-sooner rule n x (Some m) None e on sooner less = absurd (sooner (omega arith))
on-sooner rule n x (Some m) (Some last) e on sooner less =
    let same : m ≡ n = cc in
    by_until rule.pattern rule.start m (Some last) rule.until (le-leb m last (omega (arith, sooner.1)) ∙ sym (IsOn-is_occurrence rule m on).by) ∙ on

pub left-sooner : (rule : Rule) (n x : ℕ) (front until : Option ℕ) → front ≡ Some n → IfSome front (λ m. is_occurrence rule m ≡ true)
    → SomeIff until (0 < x) (x - 1) → n < x → is_occurrence rule x ≡ true → IsDate x
    → occurrences_between rule n x ≡ take 4294967295 (occurrences_left (rule_of rule.pattern rule.start until) front)
left-sooner rule n x front None e on sooner less last date = absurd (sooner (omega arith))
left-sooner rule n x front (Some last) e on sooner less passes date =
    let shorter = rule_of rule.pattern rule.start (Some last) in
    let here : is_occurrence shorter n ≡ true = rw e at (on-sooner rule n x front (Some last) e on sooner less) in
    let end : IsEndBefore rule x x = record {
      range = omega arith;
      most = omega arith;
      none = none_empty rule x x (omega arith);
      until = λ k low. matches_until-earlier rule.until k x (omega arith) (IsOn-is_occurrence rule x passes).by;
    } in
    sym (
    ap (λ left. take 4294967295 (occurrences_left shorter left)) e ∙ ap (take 4294967295) (left_from-day shorter n (omega arith) here)
    ∙ all_from shorter n (last_day + 1 - n) 4294967295 (omega arith) ∙ between_is rule n x x last end (omega arith) sooner.1
    )
