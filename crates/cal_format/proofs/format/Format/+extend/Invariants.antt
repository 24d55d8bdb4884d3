use Rattle.std.proofs.Common.{length}
use Rattle.cal_format.proofs.format.Format.+extend.Given as goal

abbrev pub decreases-extend : goal.decreases-extend
decreases-extend l = length l.items.now
