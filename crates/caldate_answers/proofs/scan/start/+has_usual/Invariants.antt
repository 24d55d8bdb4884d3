use Rattle.std.proofs.Common.{length}
use Rattle.caldate_answers.proofs.scan.start.+has_usual.Given as goal

abbrev pub decreases-has_usual : goal.decreases-has_usual
decreases-has_usual p = length p.readers.now
