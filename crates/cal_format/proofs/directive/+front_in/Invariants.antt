use Rattle.std.proofs.Common.{length}
use Rattle.cal_format.proofs.directive.+front_in.Given as goal

abbrev pub decreases-front_in : goal.decreases-front_in
decreases-front_in l = length l.table.now
