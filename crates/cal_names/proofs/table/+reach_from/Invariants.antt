use Rattle.std.proofs.Common.{◌-◌, length}
use Rattle.cal_names.proofs.table.+reach_from.Given as goal

abbrev pub decreases-reach_from : goal.decreases-reach_from
decreases-reach_from l = length l.text.now - l.end
