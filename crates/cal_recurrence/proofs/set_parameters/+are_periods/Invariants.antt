use Rattle.std.proofs.Common.{length}
use Rattle.cal_recurrence.proofs.set_parameters.+are_periods.Given as goal

abbrev pub decreases-are_periods : goal.decreases-are_periods
decreases-are_periods l = length l.head.now
