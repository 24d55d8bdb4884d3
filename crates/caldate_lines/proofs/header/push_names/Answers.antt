use Rattle.std.proofs.Common.{arith}
use Rattle.caldate_lines.proofs.HeaderNames.{longer}
use Rattle.caldate_lines.proofs.header.push_names.Goals as goal

pub push_name-requires : goal.push_name-requires
push_name-requires c = record {
  room = omega (arith, longer _ _ _ _ c.in-Some.ensures.whole, c.loop-part.invariant.0);
  few = omega (arith, longer _ _ _ _ c.in-Some.ensures.whole, c.loop-part.invariant.1, c.requires.few);
}

pub loop-part-preserved : goal.loop-part-preserved
loop-part-preserved c = (
  omega (arith, longer _ _ _ _ c.in-Some.ensures.whole, c.loop-part.invariant.0, c.push_name.ensures, c.push.ensures.longer),
  omega (arith, longer _ _ _ _ c.in-Some.ensures.whole, c.loop-part.invariant.1),
)

pub loop-part-smaller : goal.loop-part-smaller
loop-part-smaller c = omega (arith, longer _ _ _ _ c.in-Some.ensures.whole)
