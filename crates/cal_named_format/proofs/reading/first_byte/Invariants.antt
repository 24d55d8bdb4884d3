use Rattle.std.proofs.Common.{ℕ, ◌<◌}
use Rattle.cal_named_format.specs.Ambiguity.{GoesOn}
use Rattle.cal_named_format.specs.Named.{CanBegin}
use Rattle.cal_named_format.proofs.reading.first_byte.Given as goal

abbrev pub invariant-loop-byte : goal.invariant-loop-byte
invariant-loop-byte l = (b : ℕ) → b < l.byte → GoesOn l.item b → ¬ CanBegin l.names l.others b
