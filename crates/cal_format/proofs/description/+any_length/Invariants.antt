use Rattle.std.proofs.Common.{length}
use Rattle.cal_format.proofs.description.+any_length.Given as goal

abbrev pub decreases-any_length : goal.decreases-any_length
decreases-any_length l = length l.words.now
