use Rattle.std.proofs.Common.{length}
use Rattle.cal_format.proofs.parsing.+first_contradiction.Given as goal

abbrev pub decreases-first_contradiction : goal.decreases-first_contradiction
decreases-first_contradiction l = length l.items.now
