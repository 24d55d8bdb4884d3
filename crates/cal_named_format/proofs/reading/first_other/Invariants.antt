use Rattle.std.proofs.Common.{ℕ, ◌<◌}
use Rattle.cal_names.specs.Apart.{texts}
use Rattle.cal_named_format.specs.Ambiguity.{Ambiguous}
use Rattle.cal_named_format.proofs.reading.first_other.Given as goal

abbrev pub invariant-loop-other : goal.invariant-loop-other
invariant-loop-other l = (j : ℕ) → j < l.other → ¬ Ambiguous (texts l.table) l.names l.items l.index j
