use Rattle.std.proofs.Common.{length}
use Rattle.caldate_answers.proofs.scan.variant_bound.+run_length.Given as goal

abbrev pub decreases-run_length : goal.decreases-run_length
decreases-run_length l = length l.bytes.now
