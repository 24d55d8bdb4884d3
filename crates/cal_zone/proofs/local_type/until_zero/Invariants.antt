use Rattle.std.proofs.Common.{ℕ, ◌<◌, slice_index}
use Rattle.cal_zone.proofs.local_type.until_zero.Given as goal

abbrev pub invariant-loop-index : goal.invariant-loop-index
invariant-loop-index l = (k : ℕ) → k < l.index → 0 < slice_index l.bytes k
