use Rattle.std.proofs.Common.{length}
use Rattle.caldate_answers.proofs.scan.variant_bound.+variant_bound.Given as goal

abbrev pub decreases-variant_bound : goal.decreases-variant_bound
decreases-variant_bound l = length l.items.now
