use Rattle.std.proofs.Math.Facts.{to_z-of_z}
use Rattle.cal_zone.specs.Table.{changes_in}
use Rattle.cal_c.specs.Zones.{zone_of_parts}
use Rattle.cal_c.proofs.ZoneResults.{with_rule}
use Rattle.cal_c.proofs.zones.checked_zone.CheckedParts.single_by_rule.Goals as goal

pub returns-then-self-eq-RULE : goal.returns-then-self-eq-RULE
returns-then-self-eq-RULE c = λ bytes order.
    let g = c.ranges.reading in
    let p = c.args.self.now in
    let found = simp to_z-of_z at c.single_after.ensures.some in
    let rule = c.held.ensures in
    found (zone_of_parts bytes p) (changes_in bytes p.layout) order (with_rule p bytes _ _ c.if-self-eq-RULE.true rule.0 rule.1)
