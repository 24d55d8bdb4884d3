use Rattle.std.proofs.Common.{◌∙◌, sym, ap, arith, w32, w64}
use Rattle.std.proofs.lemmas.Int.{ints, to_z-of_z}
use Rattle.cal_zone.specs.Timeline.{offset_at}
use Rattle.cal_zone.specs.Zone.{IsByRule}
use Rattle.cal_zone.proofs.Joins.{offset_shown}
use Rattle.cal_zone.proofs.Offsets.{after_changes-offset}
use Rattle.cal_zone.proofs.Readings.{if_none, offset_between, some_in}
use Rattle.cal_zone.proofs.unchecked_zone.UncheckedZone.utc_offset_in_table.Goals as goal

pub returns-in-Some-clause-some : goal.returns-in-Some-clause-some
returns-in-Some-clause-some c = λ order.
    let zone = c.args.self.now in
    let b = c.in-Some.ensures.some in
    let after = to_z-of_z w32 c.after.result (omega (arith, ints)) ∙ c.after.ensures in
    some_in c.utc_offset.result _ _ (offset_at zone c.args.instant)
    (sym (offset_between zone order _ _ c.in-Some.count b.inside b.below b.above after) ∙ ap (offset_at zone) (to_z-of_z w64 c.args.instant c.ranges.instant)) c.utc_offset.ensures

pub returns-in-Some-clause-none : goal.returns-in-Some-clause-none
returns-in-Some-clause-none c = λ order.
    let zone = c.args.self.now in
    if_none c.utc_offset.result _ (IsByRule zone c.args.instant) _ c.utc_offset.ensures
    (λ out. absurd (out (offset_shown _ _ c.after.ensures (after_changes-offset zone.first.offset zone.changes c.in-Some.count order.offset order.offsets))))
