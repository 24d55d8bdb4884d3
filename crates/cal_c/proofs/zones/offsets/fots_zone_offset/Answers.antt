use Rattle.std.proofs.Common.{◌∙◌, refl, ap}
use Rattle.std.proofs.Math.Facts.{to_z-of_z}
use Rattle.cal_c.specs.Results.{offset_ok}
use Rattle.cal_c.specs.Zones.{zone_in}
use Rattle.cal_c.proofs.ZoneResults.{for_zone}
use Rattle.cal_c.proofs.zones.offsets.fots_zone_offset.Goals as goal

pub returns-in-Some-utc_offset_in_table : goal.returns-in-Some-utc_offset_in_table
returns-in-Some-utc_offset_in_table c =
    let g = c.ranges.seconds in
    let found = simp to_z-of_z at c.in-Some-utc_offset_in_table.ensures.some in
    for_zone _ _ _ _ c.in-Some.ensures (λ order. c.ok.ensures ∙ ap offset_ok (found order))

pub returns-in-None-utc_offset_in_table : goal.returns-in-None-utc_offset_in_table
returns-in-None-utc_offset_in_table c =
    let g = c.ranges.seconds in
    for_zone c.args.zone.now (zone_in c.args.zone.now) _ _ (refl, c.in-Some.ensures.1) (simp to_z-of_z at c.offset_by_rule.ensures)

pub offset_by_rule-requires : goal.offset_by_rule-requires
offset_by_rule-requires c = c.in-Some.ensures.1
