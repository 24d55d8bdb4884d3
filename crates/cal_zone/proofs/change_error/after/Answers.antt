use Rattle.std.proofs.Common.{arith, w32}
use Rattle.std.proofs.lemmas.Int.{ints, to_z-of_z}
use Rattle.cal_zone.proofs.Offsets.{after_changes-count}
use Rattle.cal_zone.proofs.change_error.after.Goals as goal

pub returns-else-count-eq0 : goal.returns-else-count-eq0
returns-else-count-eq0 c = omega (arith, ints, c.change.ensures.offset, to_z-of_z w32 c.change.result.kind.offset c.change.ensures.fits, after_changes-count c.args.first.offset c.args.table.now c.args.count (omega arith) c.requires)
