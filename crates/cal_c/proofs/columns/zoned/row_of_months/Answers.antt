use Rattle.std.proofs.Math.Facts.{to_z-of_z}
use Rattle.cal_c.proofs.columns.zoned.row_of_months.Goals as goal

pub returns : goal.returns
returns c =
    let g = c.ranges.seconds in
    let f = c.ranges.months in
    let period = simp to_z-of_z at c.from_months.ensures in
    rw period at (simp to_z-of_z at c.row_after.ensures)
