use Rattle.std.proofs.Common.{length}
use Rattle.cal_format.proofs.lenient.+are_leniently_apart.Given as goal

abbrev pub decreases-are_leniently_apart : goal.decreases-are_leniently_apart
decreases-are_leniently_apart l = length l.items.now
