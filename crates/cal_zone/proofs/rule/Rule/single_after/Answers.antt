use Rattle.std.proofs.Common.{◌≡◌, ◌↔◌, ◌⊎◌, ◌-◌, inl, inr, sym, subst, arith, w64}
use Rattle.std.proofs.lemmas.Int.{to_z-of_z}
use Rattle.std.specs.Prelude.{ℤ, ◌-ℤ◌, IfSome}
use Rattle.cal_zone.specs.Rule.{instant_at, rule_count}
use Rattle.cal_zone.specs.Span.{AllAfter, AllPast, HasAround, HasNear}
use Rattle.cal_zone.specs.Timeline.{local_at}
use Rattle.cal_zone.proofs.Counts.{rule_span}
use Rattle.cal_zone.proofs.Readings.{if_none}
use Rattle.cal_zone.proofs.Spans.{just_before, near_between}
use Rattle.cal_zone.proofs.Splits.{same_split}
use Rattle.cal_zone.proofs.rule.Rule.single_after.Goals.{then-count-skip-via-then-count-skip, then-count-skip-via-else-count-skip+then-count-len}
use Rattle.cal_zone.proofs.rule.Rule.single_after.Goals as goal

pub returns-clause-some : goal.returns-clause-some
returns-clause-some c = λ zone xs order is.
    let span = c.span_before.ensures in
    subst (λ (r : ℤ). IfSome c.single.result (λ (x : ℤ). (i : ℤ) → (i ≡ x) ↔ (local_at zone i ≡ r))) (to_z-of_z w64 c.args.reading c.ranges.reading)
    (c.single.ensures.only zone order (rule_span zone c.args.self.now.one c.args.self.now.other xs c.args.skip c.count-count.result _ _ _ order is
    (omega arith) c.count-count.ensures.split.inside span.first (λ _. just_before _ _ span.last) span.offset))

pub returns-clause-none : goal.returns-clause-none
returns-clause-none c =
    let f = instant_at c.args.self.now.one c.args.self.now.other in
    let n = c.count-count.result in
    let s = c.span_before.result in
    let is = to_z-of_z w64 c.args.reading c.ranges.reading in
    let split = same_split f rule_count _ _ n n is c.count-count.ensures.split in
    let most = split.inside in
    if_none c.single.result _ (AllAfter f c.args.skip rule_count c.args.reading ⊎ (AllPast f rule_count c.args.reading ⊎ HasNear f c.args.skip rule_count c.args.reading)) _ c.single.ensures.value
    (λ out. inr (inr (near_between f c.args.skip rule_count n s c.args.reading (omega arith) (omega (arith, c.len.ensures.len)) c.span_before.ensures.first c.span_before.ensures.last c.span_before.ensures.in_range
    (split.below (n - 1) (omega arith)) (split.above n (omega arith) (omega (arith, c.len.ensures.len)))
    (λ around. out (subst (λ (r : ℤ). HasAround s (r -ℤ s.offset)) (sym is) around)))))

pub returns-then-count-skip-clause-none : goal.returns-then-count-skip-clause-none
returns-then-count-skip-clause-none c =
    let f = instant_at c.args.self.now.one c.args.self.now.other in
    let n = c.count-count.result in
    let split = same_split f rule_count _ _ n n (to_z-of_z w64 c.args.reading c.ranges.reading) c.count-count.ensures.split in
    elim c.then-count-skip.branch [
      | then-count-skip-via-then-count-skip w ↦ inl (λ k from inside. split.above k (omega (arith, w.if-count-skip.true)) inside)
      | then-count-skip-via-else-count-skip+then-count-len w ↦ inr (inl (λ k inside. split.below k (omega (arith, w.if-count-len.true, w.len.ensures.len))))
    ]
