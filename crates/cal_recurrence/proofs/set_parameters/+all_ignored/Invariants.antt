use Rattle.std.proofs.Common.{length}
use Rattle.cal_recurrence.proofs.set_parameters.+all_ignored.Given as goal

abbrev pub decreases-all_ignored : goal.decreases-all_ignored
decreases-all_ignored l = length l.head.now
