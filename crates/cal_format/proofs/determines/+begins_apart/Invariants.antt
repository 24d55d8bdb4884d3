use Rattle.std.proofs.Common.{length}
use Rattle.cal_format.proofs.determines.+begins_apart.Given as goal

abbrev pub decreases-begins_apart : goal.decreases-begins_apart
decreases-begins_apart l = length l.items.now
