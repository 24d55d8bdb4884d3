use Rattle.std.proofs.Common.{arith, refl}
use Rattle.cal_zoned.proofs.steps.Steps.new.Goals as goal

pub invariant_of-result : goal.invariant_of-result
invariant_of-result c = (c.date.ensures.in_range, c.is_positive.ensures.0 c.if-not-is_positive.false, omega arith)

pub returns : goal.returns
returns c = (c.is_positive.ensures.0 c.if-not-is_positive.false, refl)
