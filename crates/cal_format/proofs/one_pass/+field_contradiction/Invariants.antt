use Rattle.std.proofs.Common.{length}
use Rattle.cal_format.proofs.one_pass.+field_contradiction.Given as goal

abbrev pub decreases-field_contradiction : goal.decreases-field_contradiction
decreases-field_contradiction l = length l.items.now
