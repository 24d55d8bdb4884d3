use Rattle.std.proofs.Common.{length}
use Rattle.cal_named_format.proofs.reading.+first_error.Given as goal

abbrev pub decreases-first_error : goal.decreases-first_error
decreases-first_error l = length l.items.now
