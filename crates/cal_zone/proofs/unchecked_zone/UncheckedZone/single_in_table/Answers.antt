use Rattle.std.proofs.Common.{◌≡◌, ◌∙◌, ◌↔◌, ◌⊎◌, ◌++◌, ℕ, ap, arith, inl, inr, length, subst, sym, w64}
use Rattle.std.proofs.lemmas.Int.{to_z-of_z}
use Rattle.std.specs.Prelude.{ℤ, ◌-ℤ◌, Option, IfNone, IfSome, SomeIff}
use Rattle.cal_zone.specs.declared.rule.Rule.{Rule}
use Rattle.cal_zone.specs.declared.span.Span.{Span}
use Rattle.cal_zone.specs.Span.{HasAround, HasNear, IsSpanAfter}
use Rattle.cal_zone.specs.Split.{IsBracket}
use Rattle.cal_zone.specs.Timeline.{Timeline, after_changes, at, local_at, InOrder, IsMoment, IsOffset}
use Rattle.cal_zone.specs.Zone.{later, IsByRule}
use Rattle.cal_zone.proofs.Counts.{at_end, by_later, in_table, of_changes}
use Rattle.cal_zone.proofs.Offsets.{after_changes-offset}
use Rattle.cal_zone.proofs.Readings.{if_none}
use Rattle.cal_zone.proofs.Spans.{near_change}
use Rattle.cal_zone.proofs.unchecked_zone.UncheckedZone.single_in_table.Goals as goal

-- The call shows the reading r as x.
decided : (zone : Timeline) (found : Option ℤ) (r x : ℤ) → x ≡ r → IfSome found (λ (e : ℤ). (i : ℤ) → (i ≡ e) ↔ (local_at zone i ≡ x))
    → IfSome found (λ (e : ℤ). (i : ℤ) → (i ≡ e) ↔ (local_at zone i ≡ r))
decided zone found r x is only = subst (λ (y : ℤ). IfSome found (λ (e : ℤ). (i : ℤ) → (i ≡ e) ↔ (local_at zone i ≡ y))) is only

undecided : (zone : Timeline) (s : Span) (n : ℕ) (r x : ℤ) (found : Option ℤ) → InOrder zone → x ≡ r → IsMoment r → IsSpanAfter zone.changes n s
    → s.offset ≡ after_changes zone.first.offset zone.changes n → IsBracket (at zone.changes) (length zone.changes) r n n
    → SomeIff found (HasAround s (x -ℤ s.offset)) (x -ℤ s.offset) → IfNone found (IsByRule zone r ⊎ HasNear (at zone.changes) 0 (length zone.changes) r)
undecided zone s n r x found order is moment after offset b value =
    let own : IsOffset s.offset = subst IsOffset (sym offset) (after_changes-offset zone.first.offset zone.changes n order.offset order.offsets) in
    if_none found _ (IsByRule zone r ⊎ HasNear (at zone.changes) 0 (length zone.changes) r) _ value
    (λ out. inr (near_change zone s n r after own moment b (λ around. out (subst (λ (y : ℤ). HasAround s (y -ℤ s.offset)) (sym is) around))))

pub returns-then-count-len-clause-some : goal.returns-then-count-len-clause-some
returns-then-count-len-clause-some c = λ order.
    decided c.args.self.now c.single.result _ _ (to_z-of_z w64 c.args.reading c.ranges.reading) (c.single.ensures.only c.args.self.now order (c.span_of.ensures.span order))

pub returns-then-count-len-clause-none : goal.returns-then-count-len-clause-none
returns-then-count-len-clause-none c = λ order.
    undecided c.args.self.now c.span_of.result c.count-count.result _ _ c.single.result order (to_z-of_z w64 c.args.reading c.ranges.reading) c.requires
    (c.span_of.ensures.after order) c.span_of.ensures.offset
    (of_changes _ _ _ _ c.count-count.result (ap (λ (z : Timeline). z.changes) c.self.view_is) (to_z-of_z w64 c.args.reading c.ranges.reading)
    (in_table c.self.inside.table (later c.self.inside.rule c.self.inside.skip) _ _ c.count-count.ensures (omega (arith, c.len.ensures.len)))) c.single.ensures.value

pub returns-in-None-clause-some : goal.returns-in-None-clause-some
returns-in-None-clause-some c = λ order.
    decided c.args.self.now c.single-in-None.result _ _ (to_z-of_z w64 c.args.reading c.ranges.reading) (c.single-in-None.ensures.only c.args.self.now order (c.span_of-in-None.ensures.span order))

pub returns-in-None-clause-none : goal.returns-in-None-clause-none
returns-in-None-clause-none c = λ order.
    undecided c.args.self.now c.span_of-in-None.result c.count-count.result _ _ c.single-in-None.result order (to_z-of_z w64 c.args.reading c.ranges.reading) c.requires
    (c.span_of-in-None.ensures.after order) c.span_of-in-None.ensures.offset
    (of_changes _ _ _ _ c.count-count.result (ap (λ (z : Timeline). z.changes) c.self.view_is) (to_z-of_z w64 c.args.reading c.ranges.reading)
    (at_end c.self.inside.table (later c.self.inside.rule c.self.inside.skip) _ _ c.count-count.ensures (omega (arith, c.len.ensures.len))
    (ap (λ (r : Option Rule). length (later r c.self.inside.skip)) c.in-None.is))) c.single-in-None.ensures.value

pub returns-in-Some-clause-none : goal.returns-in-Some-clause-none
returns-in-Some-clause-none c = λ order.
    let t = c.self.inside.table in
    let s = c.self.inside.skip in
    inl (by_later c.args.self.now c.in-Some.field-0 t s c.count-count.result c.args.reading _ order
    (ap (λ (r : Option Rule). t ++ later r s) (sym c.in-Some.is) ∙ ap (λ (z : Timeline). z.changes) c.self.view_is)
    (to_z-of_z w64 c.args.reading c.ranges.reading) c.count-count.ensures (omega (arith, c.len.ensures.len)))
