use Rattle.std.proofs.Common.{◌∙◌, ◌<ℤ◌, ap, arith, slice_get, subst}
use Rattle.std.proofs.lemmas.Int.{ints}
use Rattle.cal_recurrence.proofs.RuleOccurrences.{before-start}
use Rattle.cal_recurrence.proofs.date_time_rule.DateTimeRule.next_after.Goals as goal

pub returns-then-lt : goal.returns-then-lt
returns-then-lt c =
    let rule = c.args.self.now in
    let reading = c.args.reading in
    let less : reading <ℤ c.self.inside.start = grind (arith, ints) in
    c.first.ensures.value
    ∙ ap (λ l. slice_get l 0) (before-start rule reading c.date-date.ensures.in_range c.first.ensures.in_range (subst (λ z. reading <ℤ z) (ap (λ r. r.start) c.self.view_is) less))
