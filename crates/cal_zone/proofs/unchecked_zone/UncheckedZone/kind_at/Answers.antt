use Rattle.std.proofs.Common.{ap, sym, ◌∙◌, arith, w64, length}
use Rattle.std.proofs.lemmas.Int.{to_z-of_z}
use Rattle.cal_zone.specs.declared.change.Change.{Change}
use Rattle.cal_zone.specs.Timeline.{Timeline, at}
use Rattle.cal_zone.proofs.Offsets.{kind_at-first, kind_at-last}
use Rattle.cal_zone.proofs.Orders.{at_rises}
use Rattle.cal_zone.proofs.Splits.{rising_split}
use Rattle.cal_zone.proofs.unchecked_zone.UncheckedZone.kind_at.Goals as goal

pub returns-then-count-eq0 : goal.returns-then-count-eq0
returns-then-count-eq0 c = λ order.
    let split = rising_split (at c.args.self.now.changes) (length c.args.self.now.changes) _ c.count-count.result (at_rises c.args.self.now order) c.count-count.ensures in
    ap (λ (z : Timeline). z.first) c.self.view_is
    ∙ sym (kind_at-first c.args.self.now c.args.instant _ (to_z-of_z w64 c.args.instant c.ranges.instant) (λ k h. split.above k (omega arith)))

pub returns-else-count-eq0 : goal.returns-else-count-eq0
returns-else-count-eq0 c = λ order.
    let split = rising_split (at c.args.self.now.changes) (length c.args.self.now.changes) _ c.count-count.result (at_rises c.args.self.now order) c.count-count.ensures in
    ap (λ (r : Change). r.kind) c.change.ensures
    ∙ sym (kind_at-last c.args.self.now c.args.instant _ c.count-count.result (to_z-of_z w64 c.args.instant c.ranges.instant) (omega arith) split.inside split.below split.above)
