use Rattle.std.proofs.Common.{◌≡◌, ◌∙◌, ap, arith, refl, zero, suc, ℕ, ℤ, List, take}
use Rattle.std.proofs.lemmas.Bool.Decides.{nat_tests}
use Rattle.cal_recurrence.specs.DateTimeRule.{is_occurrence, occurrences, occurrences_left}
use Rattle.cal_recurrence.proofs.RuleOccurrences.{left-from}
use Rattle.cal_recurrence.proofs.date_time_rule.DateTimeRule.first_of.Goals as goal
use Rattle.cal_recurrence.proofs.date_time_rule.DateTimeRule.first_of.Goals.{then-count-eq0, else-count-eq0}

none-taken : (n : ℕ) (xs ys : List ℤ) → n ≡ 0 → take n xs ≡ take n ys
none-taken zero xs ys e = refl
none-taken (suc n) xs ys e = absurd (omega (arith, e))

pub returns : goal.returns
returns c =
    let rule = c.args.self.now in
    let count = c.args.count in
    ap (λ r. take count (occurrences_left r c.if-count-eq0.front)) c.copy.ensures
    ∙ elim c.if-count-eq0.branch as (λ _. take count (occurrences_left rule c.if-count-eq0.front) ≡ take count (occurrences rule)) [
      | then-count-eq0 w ↦ none-taken count (occurrences_left rule c.if-count-eq0.front) (occurrences rule) (grind (arith, nat_tests))
      | else-count-eq0 w ↦ ap (λ front. take count (occurrences_left rule front)) w.front-is
          ∙ ap (take count) (left-from (is_occurrence rule) 0 w.first-front.result w.first-front.ensures.value)
    ]
