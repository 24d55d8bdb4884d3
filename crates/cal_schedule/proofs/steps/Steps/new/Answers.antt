use Rattle.std.proofs.Common.{arith, refl}
use Rattle.cal_schedule.proofs.steps.Steps.new.Goals as goal

pub invariant_of-result : goal.invariant_of-result
invariant_of-result c = (c.to_julian_day.ensures.in_range, c.is_repeated.ensures.0 c.if-not-is_repeated.false, omega arith)

pub returns : goal.returns
returns c = (c.is_repeated.ensures.0 c.if-not-is_repeated.false, refl)
