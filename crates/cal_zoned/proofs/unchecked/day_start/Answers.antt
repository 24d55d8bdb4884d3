use Rattle.std.proofs.Common.{◌∙◌, ap, subst, rules, arith, FitsSigned, w64, ℤ, pos, ◌*ℤ◌}
use Rattle.std.specs.Int.{w128}
use Rattle.cal_time.specs.SignedDuration.{second}
use Rattle.cal_zone.specs.Local.{IsLocalOf}
use Rattle.std.proofs.lemmas.Int.{ints, to_z-of_z}
use Rattle.cal_zoned.proofs.Firsts.{start_single, start_fold, start_gap}
use Rattle.cal_zoned.proofs.ZoneResults.{start_value}
use Rattle.cal_zoned.proofs.unchecked.day_start.Goals as goal

pub returns-in-Single : goal.returns-in-Single
returns-in-Single c = λ order.
    start_single c.args.zone.now order c.args.date c.new.result c.new.ensures.value c.new.ensures.in_range c.in-Single.moment (subst (IsLocalOf c.args.zone.now c.new.result) c.in-Single.is (c.in_ok-local.ensures.some order)).set

pub returns-in-Gap : goal.returns-in-Gap
returns-in-Gap c = λ order.
    let x = (subst (IsLocalOf c.args.zone.now c.new.result) c.in-Gap.is (c.in_ok-local.ensures.some order)).explained in
    let g : FitsSigned w64 c.at.result = search rules in
    let b = simp to_z-of_z at c.from.ensures in
    let f : FitsSigned w128 c.from.result = omega (arith, ints, b, g.sfits) in
    let e : FitsSigned w128 (c.from.result *ℤ pos second) = omega (arith, ints, b, g.sfits) in
    let h = simp to_z-of_z at c.seen_at.ensures in
    start_gap c.args.zone.now order c.args.date c.new.result _ _ _ c.new.ensures.value x.1 (c.from.result *ℤ pos second)
    (ap (λ (y : ℤ). y *ℤ pos second) (b ∙ c.at.ensures)) _ (start_value c.args.zone.now _ c.seen_at.result (h order))

pub returns-in-Fold : goal.returns-in-Fold
returns-in-Fold c = λ order.
    let its = subst (IsLocalOf c.args.zone.now c.new.result) c.in-Fold.is (c.in_ok-local.ensures.some order) in
    start_fold c.args.zone.now order c.args.date c.new.result c.new.ensures.value c.new.ensures.in_range c.in-Fold.earlier c.in-Fold.later its.set its.explained
