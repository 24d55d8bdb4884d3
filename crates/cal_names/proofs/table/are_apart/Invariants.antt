use Rattle.std.proofs.Common.{ℕ, ◌<◌, length}
use Rattle.cal_names.specs.Apart.{IsApart, texts}
use Rattle.cal_names.proofs.table.are_apart.Given as goal

abbrev pub invariant-loop-i : goal.invariant-loop-i
invariant-loop-i l = (m : ℕ) → m < l.i → IsApart (texts l.names) m (length l.names)
