use Rattle.std.proofs.Common.{◌+◌, ◌<◌, arith, refl, subst, ℤ}
use Rattle.std.specs.Prelude.{Some}
use Rattle.cal_datetime.specs.DateTime.{IsDateTime}
use Rattle.cal_zoned.specs.Steps.{end_of_steps, series, IsNextStep, Series, YieldsStep}
use Rattle.cal_zoned.proofs.StepsInOrder.{no_next, no_value}
use Rattle.cal_zoned.proofs.steps.StepsIterator.next.Goals as goal

pub returns-then-self-ge-END-clause-steps : goal.returns-then-self-ge-END-clause-steps
returns-then-self-ge-END-clause-steps c =
    let s = c.self.inside in
    no_next c.args.self.now _ refl (subst (λ (v : Series). v.next < end_of_steps → (n : ℤ) → IsDateTime n → IsNextStep v n → ⊥) c.self.view_is (λ less n date is. absurd (omega (arith, less))))

pub returns-in_err-step-clause-steps : goal.returns-in_err-step-clause-steps
returns-in_err-step-clause-steps c =
    let s = c.self.inside in
    no_next c.args.self.now _ c.from_residual.ensures (subst (λ (v : Series). v.next < end_of_steps → (n : ℤ) → IsDateTime n → IsNextStep v n → ⊥) c.self.view_is (λ less n date is. no_value n (c.in_err-step.ensures.every n date is)))

pub returns-clause-steps : goal.returns-clause-steps
returns-clause-steps c =
    let s = c.self.inside in
    subst (λ (v : Series). YieldsStep v (Some c.in_ok-step.step) (series s.start s.period (s.next + 1))) c.self.view_is
    (omega (arith), c.in_ok-step.ensures.value.0, c.in_ok-step.ensures.value.1, refl)
