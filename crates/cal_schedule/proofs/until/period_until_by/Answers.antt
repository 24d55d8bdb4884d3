use Rattle.std.proofs.Common.{sym, subst, rules, w32, FitsSigned}
use Rattle.std.proofs.lemmas.Int.{to_z-of_z}
use Rattle.cal_schedule.specs.declared.unit.CalendarUnit.{CalendarUnit}
use Rattle.cal_schedule.specs.Units.{IsUntilBy}
use Rattle.cal_schedule.proofs.UntilBy.{by_days, by_quarters, by_years}
use Rattle.cal_schedule.proofs.until.period_until_by.Goals as goal

pub returns-in-Day : goal.returns-in-Day
returns-in-Day c =
    let f : FitsSigned w32 c.days_until.result = search rules in
    subst (λ (u : CalendarUnit). IsUntilBy u c.args.from c.args.to c.from_days.result) (sym c.in-Day.is)
    (let e = simp to_z-of_z at c.from_days.ensures in subst (IsUntilBy _ c.args.from c.args.to) (sym e) (by_days c.args.from c.args.to c.days_until.result c.days_until.ensures))

pub returns-in-Quarter : goal.returns-in-Quarter
returns-in-Quarter c =
    subst (λ (u : CalendarUnit). IsUntilBy u c.args.from c.args.to c.in_months-in-Quarter.result) (sym c.in-Quarter.is) (by_quarters _ _ _ c.in_months-in-Quarter.ensures)

pub returns-in-Year : goal.returns-in-Year
returns-in-Year c =
    let e = c.period_until.ensures in
    subst (λ (u : CalendarUnit). IsUntilBy u c.args.from c.args.to c.period_until.result) (sym c.in-Year.is)
    (by_years c.args.from c.args.to c.period_until.result e.value e.value_forward e.value_backward e.forward e.backward)
