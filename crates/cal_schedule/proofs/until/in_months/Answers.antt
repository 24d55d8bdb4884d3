use Rattle.std.proofs.Common.{sym, subst, rules, w32, FitsSigned}
use Rattle.std.proofs.lemmas.Int.{to_z-of_z}
use Rattle.cal_schedule.specs.declared.unit.CalendarUnit.TheVariants.{Month}
use Rattle.cal_schedule.specs.Units.{IsUntilBy}
use Rattle.cal_schedule.proofs.UntilBy.{by_months, months_sign}
use Rattle.cal_schedule.proofs.until.in_months.Goals as goal

pub unreachable-requires : goal.unreachable-requires
unreachable-requires c =
    let x = c.months_and_days_until-months in
    let a : FitsSigned w32 x.result.0 = search rules in
    let b : FitsSigned w32 x.result.1 = search rules in
    (simp to_z-of_z at c.in-None.ensures) (months_sign c.args.from c.args.to _ _ x.ensures.forward x.ensures.backward)

pub returns : goal.returns
returns c =
    let x = c.months_and_days_until-months in
    let a : FitsSigned w32 x.result.0 = search rules in
    let b : FitsSigned w32 x.result.1 = search rules in
    let same = simp to_z-of_z at c.in-Some.ensures.1 in
    subst (IsUntilBy Month c.args.from c.args.to) (sym same)
    (by_months c.args.from c.args.to _ _ x.ensures.value x.ensures.value_forward x.ensures.value_backward (months_sign c.args.from c.args.to _ _ x.ensures.forward x.ensures.backward))
