use Rattle.std.proofs.Common.{sym, subst, rules, w32, FitsSigned, ◌≤ℤ◌, pos, neg_ℤ}
use Rattle.std.proofs.lemmas.Int.{to_z-of_z}
use Rattle.cal_schedule.specs.Period.{Parts}
use Rattle.cal_schedule.proofs.Periods.{until_sign}
use Rattle.cal_schedule.proofs.until.period_until.Goals as goal

pub unreachable-requires : goal.unreachable-requires
unreachable-requires c =
    let parts = c.parts_until-years in
    let a : FitsSigned w32 parts.result.0 = search rules in
    let b : FitsSigned w32 parts.result.1 = search rules in
    let d : FitsSigned w32 parts.result.2 = search rules in
    (simp to_z-of_z at c.in-None.ensures) (until_sign c.args.from c.args.to _ _ _ parts.ensures.forward parts.ensures.backward)

pub returns-clause-backward : goal.returns-clause-backward
returns-clause-backward c h =
    let parts = c.parts_until-years in
    let a : FitsSigned w32 parts.result.0 = search rules in
    let b : FitsSigned w32 parts.result.1 = search rules in
    let d : FitsSigned w32 parts.result.2 = search rules in
    let same = simp to_z-of_z at c.in-Some.ensures.1 in
    subst (λ (p : Parts). (p.years ≤ℤ pos 0) × (neg_ℤ (pos 11) ≤ℤ p.months) × (p.months ≤ℤ pos 0) × (p.days ≤ℤ pos 0)) (sym same) (parts.ensures.backward h)
