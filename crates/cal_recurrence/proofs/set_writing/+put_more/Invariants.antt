use Rattle.std.proofs.Common.{length}
use Rattle.cal_recurrence.proofs.set_writing.+put_more.Given as goal

abbrev pub decreases-put_more : goal.decreases-put_more
decreases-put_more l = length l.values.now
