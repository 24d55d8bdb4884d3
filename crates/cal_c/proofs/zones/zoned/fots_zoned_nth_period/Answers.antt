use Rattle.std.proofs.Math.Facts.{to_z-of_z}
use Rattle.cal_c.proofs.ZoneResults.{for_none, for_zone}
use Rattle.cal_c.proofs.zones.zoned.fots_zoned_nth_period.Goals as goal

pub returns : goal.returns
returns c =
    let g = c.ranges.n in
    for_zone _ _ _ _ c.in-Some.ensures (simp to_z-of_z at c.nth_period.ensures)

pub returns-in-None : goal.returns-in-None
returns-in-None c = for_none _ _ _ c.in-None.ensures c.error.ensures
