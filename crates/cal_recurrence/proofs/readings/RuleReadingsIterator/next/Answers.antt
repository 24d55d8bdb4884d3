use Rattle.std.proofs.Common.{◌≢◌, ◌∙◌, sym, ap, arith, length, take}
use Rattle.std.proofs.lemmas.Bool.Decides.{nat_tests}
use Rattle.cal_recurrence.specs.DateTimeRule.{occurrences_left}
use Rattle.cal_recurrence.proofs.RuleOccurrences.{some-left}
use Rattle.cal_recurrence.proofs.readings.RuleReadingsIterator.next.Goals as goal

pub returns-clause-steps : goal.returns-clause-steps
returns-clause-steps c =
    let walk = c.self.inside in
    let some : walk.left ≢ 0 = grind (arith, nat_tests) in
    sym c.self.view_is ∙ ap (λ front. take walk.left (occurrences_left walk.rule front)) c.in_ok-item.was
    ∙ some-left walk.rule c.in_ok-item.item walk.left c.next_after-self-inside.result some c.next_after-self-inside.ensures

pub returns-clause-goes : goal.returns-clause-goes
returns-clause-goes c = record { on = λ _. (tt, tt, omega (arith, ap length (returns-clause-steps c))); keeps = tt; rests = λ _. tt }
