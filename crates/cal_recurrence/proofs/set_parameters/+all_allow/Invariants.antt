use Rattle.std.proofs.Common.{length}
use Rattle.cal_recurrence.proofs.set_parameters.+all_allow.Given as goal

abbrev pub decreases-all_allow : goal.decreases-all_allow
decreases-all_allow l = length l.head.now
