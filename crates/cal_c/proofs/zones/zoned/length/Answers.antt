use Rattle.std.proofs.Math.Facts.{to_z-of_z}
use Rattle.cal_c.proofs.Needs.{met}
use Rattle.cal_c.proofs.ZonedResults.{length_result}
use Rattle.cal_c.proofs.zones.zoned.length.Goals as goal

pub returns : goal.returns
returns c = λ order.
    let g = c.ranges.date in
    let date = simp to_z-of_z at c.in-Some.ensures in
    met date.0 (length_result c.args.zone.now _ c.in-Some.value c.day_length.result c.from_option.result date.1
    (c.day_length.ensures.value order) (c.day_length.ensures.some order) (c.day_length.ensures.none order) c.from_option.ensures)
