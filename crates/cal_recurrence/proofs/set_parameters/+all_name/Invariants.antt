use Rattle.std.proofs.Common.{length}
use Rattle.cal_recurrence.proofs.set_parameters.+all_name.Given as goal

abbrev pub decreases-all_name : goal.decreases-all_name
decreases-all_name l = length l.head.now
