use Rattle.std.proofs.Common.{◌∙◌, ◌++◌, ap, arith, sym, Option, w64}
use Rattle.std.proofs.lemmas.Int.{to_z-of_z}
use Rattle.cal_zone.specs.declared.rule.Rule.{Rule}
use Rattle.cal_zone.specs.Timeline.{Timeline}
use Rattle.cal_zone.specs.Zone.{later}
use Rattle.cal_zone.proofs.Counts.{by_later}
use Rattle.cal_zone.proofs.unchecked_zone.UncheckedZone.count_in_table.Goals as goal

pub returns-in-Some-clause-none : goal.returns-in-Some-clause-none
returns-in-Some-clause-none c = λ order.
    let t = c.self.inside.table in
    let s = c.self.inside.skip in
    by_later c.args.self.now c.in-Some.field-0 t s c.count-count.result c.args.instant _ order
    (ap (λ (r : Option Rule). t ++ later r s) (sym c.in-Some.is) ∙ ap (λ (z : Timeline). z.changes) c.self.view_is)
    (to_z-of_z w64 c.args.instant c.ranges.instant) c.count-count.ensures (omega (arith, c.len.ensures.len))
