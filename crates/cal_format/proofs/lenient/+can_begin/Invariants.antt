use Rattle.std.proofs.Common.{length}
use Rattle.cal_format.proofs.lenient.+can_begin.Given as goal

abbrev pub decreases-can_begin : goal.decreases-can_begin
decreases-can_begin l = length l.items.now
