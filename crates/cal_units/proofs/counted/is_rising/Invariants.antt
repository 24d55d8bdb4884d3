use Rattle.std.specs.List.{AllAdjacentBelow}
use Rattle.std.proofs.Common.{◌<ℤ◌}
use Rattle.cal_units.proofs.counted.is_rising.Given as goal

abbrev pub invariant-loop-i : goal.invariant-loop-i
invariant-loop-i g l = AllAdjacentBelow (λ x y. g.T.Counted.number_of x <ℤ g.T.Counted.number_of y) l.items l.i
