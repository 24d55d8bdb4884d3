use Rattle.std.proofs.Common.{length}
use Rattle.cal_named_format.proofs.printing.+print.Given as goal

abbrev pub decreases-print : goal.decreases-print
decreases-print l = length l.items.now
