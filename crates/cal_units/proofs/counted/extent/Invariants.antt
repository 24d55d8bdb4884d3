use Rattle.std.proofs.Common.{◌≡◌, ◌∷◌, take}
use Rattle.cal_units.specs.Counted.{IsExtent}
use Rattle.cal_units.proofs.counted.extent.Given as goal

-- The minimum and the maximum are the extent of the items so far.
abbrev pub invariant-loop-item : goal.invariant-loop-item
invariant-loop-item g l =
    (first : _) × ((l.items ≡ first ∷ l.rest) × IsExtent g.T.Counted.number_of (first ∷ take l.item-index l.rest) (l.minimum, l.maximum))
