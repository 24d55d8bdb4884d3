use Rattle.std.proofs.Common.{length}
use Rattle.cal_format.proofs.letters.+same_letters.Given as goal

abbrev pub decreases-same_letters : goal.decreases-same_letters
decreases-same_letters l = length l.text.now
