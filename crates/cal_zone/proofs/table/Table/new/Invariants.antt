use Rattle.std.proofs.Common.{ℕ, ◌+◌, ◌<◌}
use Rattle.std.specs.Prelude.{slice_index}
use Rattle.cal_zone.proofs.table.Table.new.Given as goal

abbrev pub invariant-each : goal.invariant-each
invariant-each l = (k : ℕ) → k < l.index → slice_index l.bytes (l.layout.indexes + k) < l.layout.kinds
