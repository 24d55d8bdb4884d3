use Rattle.std.proofs.Common.{length}
use Rattle.cal_format.proofs.fields.Fields.+fill.Given as goal

abbrev pub decreases-fill : goal.decreases-fill
decreases-fill l = length l.items.now
