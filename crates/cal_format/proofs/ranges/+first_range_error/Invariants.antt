use Rattle.std.proofs.Common.{length}
use Rattle.cal_format.proofs.ranges.+first_range_error.Given as goal

abbrev pub decreases-first_range_error : goal.decreases-first_range_error
decreases-first_range_error l = length l.items.now
