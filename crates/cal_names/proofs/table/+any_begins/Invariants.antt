use Rattle.std.proofs.Common.{length}
use Rattle.cal_names.proofs.table.+any_begins.Given as goal

abbrev pub decreases-any_begins : goal.decreases-any_begins
decreases-any_begins l = length l.names.now
