use Rattle.std.proofs.Common.{ℕ, ◌<◌}
use Rattle.cal_names.specs.Apart.{texts}
use Rattle.cal_named_format.specs.Ambiguity.{Ambiguous}
use Rattle.cal_named_format.proofs.reading.first_pair.Given as goal

abbrev pub invariant-loop-index : goal.invariant-loop-index
invariant-loop-index l = (i j : ℕ) → i < l.index → ¬ Ambiguous (texts l.table) l.names l.items i j
