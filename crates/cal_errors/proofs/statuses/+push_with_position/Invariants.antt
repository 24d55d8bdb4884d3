use Rattle.std.proofs.Common.{length}
use Rattle.cal_errors.proofs.statuses.+push_with_position.Given as goal

abbrev pub decreases-push_with_position : goal.decreases-push_with_position
decreases-push_with_position l = length l.words.now
