use Rattle.std.proofs.Common.{◌≡◌, ℕ, ◌<◌, Some}
use Rattle.std.specs.Prelude.{slice_get}
use Rattle.cal_names.specs.Apart.{texts}
use Rattle.cal_names.proofs.table.index_of.Given as goal

abbrev pub invariant-loop-index : goal.invariant-loop-index
invariant-loop-index l = (n : ℕ) → n < l.index → slice_get (texts l.names) n ≡ Some l.text → ⊥
