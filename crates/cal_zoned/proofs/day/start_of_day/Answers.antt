use Rattle.std.proofs.Common.{◌∙◌, ap, rules, arith, FitsSigned, w64, ℤ, pos, ◌*ℤ◌, refl, inl}
use Rattle.std.specs.Int.{w128}
use Rattle.cal_time.specs.SignedDuration.{second}
use Rattle.std.proofs.lemmas.Int.{ints, to_z-of_z}
use Rattle.cal_zoned.proofs.Firsts.{start_single, start_fold, start_gap, gap_least, shown_least}
use Rattle.cal_zoned.proofs.day.start_of_day.Goals as goal

pub returns-in-Single-clause-start : goal.returns-in-Single-clause-start
returns-in-Single-clause-start c = start_single c.args.zone.now c.in_order.ensures c.args.date c.new.result c.new.ensures.value c.new.ensures.in_range c.in-Single.moment c.in-Single.ensures.set

pub returns-in-Gap-clause-start : goal.returns-in-Gap-clause-start
returns-in-Gap-clause-start c =
    let x = c.in-Gap.ensures.explained in
    let g : FitsSigned w64 c.at.result = search rules in
    let b = simp to_z-of_z at c.from.ensures in
    let f : FitsSigned w128 c.from.result = omega (arith, ints, b, g.sfits) in
    let e : FitsSigned w128 (c.from.result *ℤ pos second) = omega (arith, ints, b, g.sfits) in
    let h = simp to_z-of_z at c.from_unix_timestamp_nanos.ensures in
    start_gap c.args.zone.now c.in_order.ensures c.args.date c.new.result _ _ _ c.new.ensures.value x.1 (c.from.result *ℤ pos second)
    (ap (λ (y : ℤ). y *ℤ pos second) (b ∙ c.at.ensures)) c.from_unix_timestamp_nanos.result h

pub returns-in-Fold-clause-start : goal.returns-in-Fold-clause-start
returns-in-Fold-clause-start c = start_fold c.args.zone.now c.in_order.ensures c.args.date c.new.result c.new.ensures.value c.new.ensures.in_range c.in-Fold.earlier c.in-Fold.later c.in-Fold.ensures.set c.in-Fold.ensures.explained

pub returns-in-Single-clause-least : goal.returns-in-Single-clause-least
returns-in-Single-clause-least c = λ y h. shown_least _ _ _ (((c.in-Single.ensures.set c.in-Single.moment).0 refl).same ∙ c.new.ensures.value) h

pub returns-in-Fold-clause-least : goal.returns-in-Fold-clause-least
returns-in-Fold-clause-least c = λ y h. shown_least _ _ _ (((c.in-Fold.ensures.set c.in-Fold.earlier).0 (inl refl)).same ∙ c.new.ensures.value) h

pub returns-in-Gap-clause-least : goal.returns-in-Gap-clause-least
returns-in-Gap-clause-least c =
    let x = c.in-Gap.ensures.explained in
    let g : FitsSigned w64 c.at.result = search rules in
    let b = simp to_z-of_z at c.from.ensures in
    let f : FitsSigned w128 c.from.result = omega (arith, ints, b, g.sfits) in
    let e : FitsSigned w128 (c.from.result *ℤ pos second) = omega (arith, ints, b, g.sfits) in
    let h = simp to_z-of_z at c.from_unix_timestamp_nanos.ensures in
    gap_least c.args.zone.now c.in_order.ensures c.args.date c.new.result _ _ _ c.new.ensures.value x.1 (c.from.result *ℤ pos second)
    (ap (λ (y : ℤ). y *ℤ pos second) (b ∙ c.at.ensures)) c.from_unix_timestamp_nanos.result h
