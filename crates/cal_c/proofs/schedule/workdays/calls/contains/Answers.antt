use Rattle.std.proofs.Common.{ap, refl, ◌∙◌, rules, FitsSigned, w32}
use Rattle.std.proofs.lemmas.Int.{to_z-of_z}
use Rattle.cal_schedule.specs.Workdays.{is_workday}
use Rattle.cal_c.specs.CheckedWorkdays.{week_of}
use Rattle.cal_c.specs.Results.{number_ok}
use Rattle.cal_c.proofs.CheckedHolidays.{bit-of}
use Rattle.cal_c.proofs.Needs.{met}
use Rattle.cal_c.proofs.schedule.workdays.calls.contains.Goals as goal

pub returns-clause-any : goal.returns-clause-any
returns-clause-any c =
    let f = c.ranges.date in
    let at = simp to_z-of_z at c.in-Some.ensures in
    let fits : FitsSigned w32 c.from.result = search rules in
    let ok = simp to_z-of_z at c.ok.ensures in
    met at.0 (c.contains.result, ok ∙ ap number_ok (c.from.ensures ∙ bit-of c.contains.result c.contains.result refl))

pub returns-clause-value : goal.returns-clause-value
returns-clause-value c =
    let f = c.ranges.date in
    let at = simp to_z-of_z at c.in-Some.ensures in
    let fits : FitsSigned w32 c.from.result = search rules in
    let ok = simp to_z-of_z at c.ok.ensures in
    let week = week_of c.args.workdays.now in
    λ checked h. ok ∙ ap number_ok (c.from.ensures ∙ bit-of c.contains.result _ (c.contains.ensures checked ∙ ap (is_workday week) at.1))
