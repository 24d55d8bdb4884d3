use Rattle.std.proofs.Common.{ap, arith, length}
use Rattle.caldate_lines.proofs.HeaderNames.{longer}
use Rattle.caldate_lines.proofs.input.fields.count_fields.Goals as goal

pub overflow_add-count : goal.overflow_add-count
overflow_add-count c = omega (arith, longer _ _ _ _ c.in-Some.ensures.whole, c.loop-others.invariant.1, c.requires)

pub loop-others-preserved : goal.loop-others-preserved
loop-others-preserved c = (
  omega (arith, ap length c.in-Some.ensures.fields, c.loop-others.invariant.0),
  omega (arith, longer _ _ _ _ c.in-Some.ensures.whole, c.loop-others.invariant.1),
)

pub loop-others-smaller : goal.loop-others-smaller
loop-others-smaller c = omega (arith, longer _ _ _ _ c.in-Some.ensures.whole)

pub returns : goal.returns
returns c = omega (arith, ap length c.in_default.ensures.fields, c.loop-others.invariant.0)
