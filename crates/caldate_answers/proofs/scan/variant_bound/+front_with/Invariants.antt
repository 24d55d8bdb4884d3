use Rattle.std.proofs.Common.{length}
use Rattle.caldate_answers.proofs.scan.variant_bound.+front_with.Given as goal

abbrev pub decreases-front_with : goal.decreases-front_with
decreases-front_with l = length l.bytes.now
