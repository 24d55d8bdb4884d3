use Rattle.std.proofs.Common.{◌<◌, length}
use Rattle.std.specs.Prelude.{IfSome}
use Rattle.cal_names.specs.Apart.{IsFound, texts}
use Rattle.cal_names.proofs.table.find.Given as goal

abbrev pub invariant-loop-index : goal.invariant-loop-index
invariant-loop-index l = record { found : IsFound (texts l.names) l.text l.index l.found; within : IfSome l.found (λ k. k < length l.names) }
