use Rattle.std.proofs.Common.{refl, ◌≤ℤ◌, rules}
use Rattle.cal_zoned.proofs.steps.step_of.Goals as goal

pub returns-clause-some : goal.returns-clause-some
returns-clause-some c =
    let h : c.args.start ≤ℤ c.args.reading = search rules in
    (λ t. (h, c.is_positive.ensures.0 c.if-not-is_positive.false), λ s. refl)

pub last_step-requires-clause-period : goal.last_step-requires-clause-period
last_step-requires-clause-period c = c.is_positive.ensures.0 c.if-not-is_positive.false
