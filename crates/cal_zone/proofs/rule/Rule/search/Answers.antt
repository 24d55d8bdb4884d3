use Rattle.std.proofs.Common.{subst, ℤ, ◌+◌, ◌≤ℤ◌, ◌∙◌, refl, arith, to_z, of_z, w64, ◌-◌, ◌/◌}
use Rattle.std.proofs.lemmas.Int.{ints, to_z-of_z}
use Rattle.cal_zone.specs.Rule.{instant_at, rule_count}
use Rattle.cal_zone.specs.Split.{IsBracket}
use Rattle.cal_zone.proofs.Splits.{upward, ended, is_past}
use Rattle.cal_zone.proofs.rule.Rule.search.Goals as goal

pub loop-low-preserved-then-time-instant : goal.loop-low-preserved-then-time-instant
loop-low-preserved-then-time-instant c =
    let f = instant_at c.args.self.now.one c.args.self.now.other in
    let here : f (c.loop-low.low + (c.loop-low.high - c.loop-low.low) / 2) ≤ℤ to_z w64 (of_z w64 c.args.instant) =
    is_past _ _ _ _ c.if-time-instant.true (to_z-of_z w64 c.time.result (omega (arith, ints, c.time.ensures.moment)) ∙ c.time.ensures.value) refl in
    upward f rule_count _ c.loop-low.low c.loop-low.high _ c.loop-low.invariant (omega arith) here

pub returns : goal.returns
returns c =
    let f = instant_at c.args.self.now.one c.args.self.now.other in
    subst (λ (z : ℤ). IsBracket f rule_count z c.loop-low.low c.loop-low.low) (to_z-of_z w64 c.args.instant c.ranges.instant)
    (ended f rule_count _ c.loop-low.low c.loop-low.high (omega arith) c.loop-low.invariant)
