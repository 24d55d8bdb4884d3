use Rattle.std.proofs.Common.{◌≡◌, arith, of_calls}
use Rattle.cal_units.specs.CycleSteps.{at_end, stops, goes_on}
use Rattle.cal_units.proofs.steps.all_in.Goals as goal

pub returns-then-not-f : goal.returns-then-not-f
returns-then-not-f g c =
    c.loop-index.invariant.1 _ (stops _ _ c.f.new.self (omega arith) (rw (c.at.ensures, c.if-not-f.true) at c.f.ensures))

pub loop-index-preserved : goal.loop-index-preserved
loop-index-preserved g c =
    (search of_calls, λ r h. c.loop-index.invariant.1 _ (goes_on _ _ c.f.new.self _ (omega arith) (rw (c.at.ensures, c.if-not-f.false) at c.f.ensures) h))

pub returns : goal.returns
returns g c =
    let e : c.loop-index.index ≡ g.C.Cycle.LENGTH = omega arith in
    c.loop-index.invariant.1 _ (rw e (at_end _))
