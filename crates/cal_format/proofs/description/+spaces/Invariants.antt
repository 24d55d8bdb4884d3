use Rattle.std.proofs.Common.{length}
use Rattle.cal_format.proofs.description.+spaces.Given as goal

abbrev pub decreases-spaces : goal.decreases-spaces
decreases-spaces l = length l.text.now
