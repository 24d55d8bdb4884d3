use Rattle.std.proofs.Math.Facts.{to_z-of_z}
use Rattle.cal_c.proofs.ZoneResults.{for_none, for_zone}
use Rattle.cal_c.proofs.zones.moves.fots_zoned_moved_to.Goals as goal

pub returns : goal.returns
returns c =
    let g = c.ranges.date in
    for_zone _ _ _ _ c.in-Some.ensures (simp to_z-of_z at c.to_date.ensures)

pub returns-in-None : goal.returns-in-None
returns-in-None c = for_none _ _ _ c.in-None.ensures c.error.ensures
