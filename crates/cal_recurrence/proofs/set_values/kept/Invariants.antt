use Rattle.std.proofs.Common.{◌≡◌, ◌≤◌, length, take}
use Rattle.std.specs.Prelude.{filter_map}
use Rattle.cal_recurrence.proofs.set_values.kept.Given as goal

abbrev pub invariant-loop-value : goal.invariant-loop-value
invariant-loop-value g l = (l.kept ≡ filter_map (g.T.SetValue.meaning_of l.is_utc) (take l.value-index l.values)) × (length l.kept ≤ l.value-index)
