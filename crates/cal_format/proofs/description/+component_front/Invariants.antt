use Rattle.std.proofs.Common.{length}
use Rattle.cal_format.proofs.description.+component_front.Given as goal

abbrev pub decreases-component_front : goal.decreases-component_front
decreases-component_front l = length l.table.now
