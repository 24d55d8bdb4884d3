use Rattle.std.proofs.Common.{length}
use Rattle.caldate_answers.proofs.scan.bound.+bound_in.Given as goal

abbrev pub decreases-bound_in : goal.decreases-bound_in
decreases-bound_in p = length p.readers.now
