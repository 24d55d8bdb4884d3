use Rattle.std.proofs.Common.{sym, ◌∙◌, ap, arith, subst, w32, w64}
use Rattle.std.proofs.lemmas.Int.{ints, to_z-of_z}
use Rattle.std.specs.Prelude.{ℤ}
use Rattle.cal_zone.specs.Span.{IsBetweenChanges, IsNear}
use Rattle.cal_zone.specs.Timeline.{offset_at}
use Rattle.cal_zone.proofs.Spans.{only}
use Rattle.cal_zone.proofs.unchecked_zone.UncheckedZone.span_after.Goals as goal

pub returns-then-is_near-clause-near : goal.returns-then-is_near-clause-near
returns-then-is_near-clause-near c = λ order near.
    subst (λ (i : ℤ). IsBetweenChanges c.args.self.now i c.span_at.result) (to_z-of_z w64 c.args.instant c.ranges.instant) (c.span_at.ensures.ends order)

pub returns-then-is_near-clause-far : goal.returns-then-is_near-clause-far
returns-then-is_near-clause-far c = λ far. absurd (far (subst (IsNear c.args.other) (to_z-of_z w64 c.args.instant c.ranges.instant) (c.is_near.ensures.0 c.if-is_near.true)))

pub returns-else-is_near-clause-offset : goal.returns-else-is_near-clause-offset
returns-else-is_near-clause-offset c = λ order.
    to_z-of_z w32 c.span_by.result.offset (omega (arith, ints)) ∙ c.span_by.ensures.offset order ∙ ap (offset_at c.args.self.now) (to_z-of_z w64 c.args.instant c.ranges.instant)

pub returns-else-is_near-clause-span : goal.returns-else-is_near-clause-span
returns-else-is_near-clause-span c = λ order.
    only c.args.self.now _ _ _ (to_z-of_z w64 c.args.instant c.ranges.instant) (returns-else-is_near-clause-offset c order)

pub returns-else-is_near-clause-near : goal.returns-else-is_near-clause-near
returns-else-is_near-clause-near c = λ order near.
    let yes = c.is_near.ensures.1 (subst (IsNear c.args.other) (sym (to_z-of_z w64 c.args.instant c.ranges.instant)) near) in
    let no = c.if-is_near.false in
    absurd (grind (arith, yes, no))
