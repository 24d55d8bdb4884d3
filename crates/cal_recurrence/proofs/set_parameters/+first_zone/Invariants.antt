use Rattle.std.proofs.Common.{length}
use Rattle.cal_recurrence.proofs.set_parameters.+first_zone.Given as goal

abbrev pub decreases-first_zone : goal.decreases-first_zone
decreases-first_zone l = length l.head.now
