use Rattle.std.proofs.Common.{length}
use Rattle.cal_format.proofs.lenient_parsing.+number_in.Given as goal

abbrev pub decreases-number_in : goal.decreases-number_in
decreases-number_in l = length l.items.now
