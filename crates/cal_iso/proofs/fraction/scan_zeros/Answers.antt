use Rattle.std.proofs.Common.{◌+◌, arith, refl}
use Rattle.cal_iso.specs.IsoShape.{any_length}
use Rattle.cal_iso.proofs.ClockReads.{no_more_zeros, one_zero, zeros_past}
use Rattle.cal_iso.proofs.fraction.scan_zeros.Goals as goal

pub loop-preserved : goal.loop-preserved
loop-preserved c = one_zero _ _ _ _ c.loop.invariant c.in-Some.ensures.value

pub returns-in-None-clause-scans : goal.returns-in-None-clause-scans
unfolding any_length
returns-in-None-clause-scans c k f = zeros_past _ (k + any_length) f _ _ _ c.loop.invariant (omega arith) c.in-None.ensures.branches c.in-None.ensures.unchanged

pub returns-clause-scans : goal.returns-clause-scans
unfolding any_length
returns-clause-scans c k f = zeros_past _ (k + any_length) f _ _ _ c.loop.invariant (omega arith) (no_more_zeros _ _ _ c.loop.invariant (omega arith)) refl
