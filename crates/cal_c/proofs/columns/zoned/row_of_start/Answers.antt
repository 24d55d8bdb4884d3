use Rattle.std.proofs.Math.Facts.{to_z-of_z}
use Rattle.cal_c.proofs.columns.zoned.row_of_start.Goals as goal

pub returns-in-Some : goal.returns-in-Some
returns-in-Some c =
    let g = c.ranges.seconds in
    let found = simp to_z-of_z at c.start_seconds.ensures in
    rw c.in-Some.is found
