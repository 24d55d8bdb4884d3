use Rattle.std.proofs.Common.{sym, subst, rules, w32, FitsSigned}
use Rattle.std.proofs.lemmas.Int.{to_z-of_z}
use Rattle.cal_schedule.specs.declared.unit.CalendarUnit.TheVariants.{Week}
use Rattle.cal_schedule.specs.Units.{IsUntilBy}
use Rattle.cal_schedule.proofs.UntilBy.{by_weeks, weeks_sign}
use Rattle.cal_schedule.proofs.until.in_weeks.Goals as goal

pub unreachable-requires : goal.unreachable-requires
unreachable-requires c =
    let x = c.weeks_and_days-weeks in
    let a : FitsSigned w32 x.result.0 = search rules in
    let b : FitsSigned w32 x.result.1 = search rules in
    (simp to_z-of_z at c.in-None.ensures) (weeks_sign _ _ _ x.ensures.forward x.ensures.backward).0

pub returns : goal.returns
returns c =
    let f : FitsSigned w32 c.days_until.result = search rules in
    let x = c.weeks_and_days-weeks in
    let a : FitsSigned w32 x.result.0 = search rules in
    let b : FitsSigned w32 x.result.1 = search rules in
    let same = simp to_z-of_z at c.in-Some.ensures.1 in
    let signs = weeks_sign _ _ _ x.ensures.forward x.ensures.backward in
    subst (IsUntilBy Week c.args.from c.args.to) (sym same)
    (by_weeks c.args.from c.args.to c.days_until.result _ _ c.days_until.ensures (simp to_z-of_z at x.ensures.value) signs.0 signs.1 signs.2)
