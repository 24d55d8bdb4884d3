use Rattle.std.proofs.Math.Facts.{to_z-of_z}
use Rattle.cal_c.proofs.schedule.pair_periods.fots_pair_add_period.Goals as goal

pub returns : goal.returns
returns c =
    let g = c.ranges.date in
    simp to_z-of_z at c.fots_pair_nth_period.ensures
