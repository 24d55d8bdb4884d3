use Rattle.std.proofs.Common.{◌+◌, refl, subst}
use Rattle.cal_time.specs.Date.{IsDate}
use Rattle.std.specs.Prelude.{Some}
use Rattle.cal_schedule.specs.Steps.{series, IsNextStep, Series, YieldsStep}
use Rattle.cal_schedule.proofs.Periods.{no_value}
use Rattle.cal_schedule.proofs.StepsInOrder.{no_next, past_end}
use Rattle.cal_schedule.proofs.steps.StepsIterator.next.Goals as goal

pub returns-then-self-ge1073741824-clause-steps : goal.returns-then-self-ge1073741824-clause-steps
returns-then-self-ge1073741824-clause-steps c =
    let s = c.self.inside in
    let own = past_end (series s.start s.period s.next) c.self.invariant.0 c.self.invariant.1.0 c.if-self-ge1073741824.true in
    no_next c.args.self.now _ refl (subst (λ (v : Series). (n : _) → IsDate n → IsNextStep v n → ⊥) c.self.view_is own)

pub returns-in_err-date-clause-steps : goal.returns-in_err-date-clause-steps
returns-in_err-date-clause-steps c =
    let s = c.self.inside in
    no_next c.args.self.now _ c.from_residual.ensures (subst (λ (v : Series). (n : _) → IsDate n → IsNextStep v n → ⊥) c.self.view_is (λ n date is. no_value n (c.in_err-date.ensures.every n date is)))

pub returns-clause-steps : goal.returns-clause-steps
returns-clause-steps c =
    let s = c.self.inside in
    subst (λ (v : Series). YieldsStep v (Some c.in_ok-date.date) (series s.start s.period (s.next + 1))) c.self.view_is
    (c.in_ok-date.ensures.value.0, c.in_ok-date.ensures.value.1, refl)
