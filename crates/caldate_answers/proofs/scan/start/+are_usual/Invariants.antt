use Rattle.std.proofs.Common.{length}
use Rattle.caldate_answers.proofs.scan.start.+are_usual.Given as goal

abbrev pub decreases-are_usual : goal.decreases-are_usual
decreases-are_usual p = length p.readers.now
