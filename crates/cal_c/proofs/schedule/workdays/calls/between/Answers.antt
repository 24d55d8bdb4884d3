use Rattle.std.proofs.Common.{ap, ◌∙◌, rules, FitsSigned, w32}
use Rattle.std.proofs.lemmas.Int.{to_z-of_z}
use Rattle.cal_c.specs.CheckedWorkdays.{week_of}
use Rattle.cal_c.specs.Results.{number_ok}
use Rattle.cal_c.specs.Values.{day_of}
use Rattle.cal_c.specs.Weekmasks.{workdays_between}
use Rattle.cal_c.proofs.Needs.{met}
use Rattle.cal_c.proofs.schedule.workdays.calls.between.Goals as goal

pub returns-clause-any : goal.returns-clause-any
returns-clause-any c =
    let f = c.ranges.date in
    let at = simp to_z-of_z at c.in-Some.ensures in
    let g = c.ranges.other in
    let to = simp to_z-of_z at c.in-Some-day_number.ensures in
    met (at.0, to.0) (ap (λ r. r.status) c.ok.ensures)

pub returns-clause-value : goal.returns-clause-value
returns-clause-value c =
    let f = c.ranges.date in
    let at = simp to_z-of_z at c.in-Some.ensures in
    let g = c.ranges.other in
    let to = simp to_z-of_z at c.in-Some-day_number.ensures in
    let fits : FitsSigned w32 c.between.result = search rules in
    let ok = simp to_z-of_z at c.ok.ensures in
    let week = week_of c.args.workdays.now in
    λ checked h k. ok ∙ ap number_ok
    (c.between.ensures checked ∙ ap (λ n. workdays_between week n c.in-Some-day_number.value) at.1 ∙ ap (workdays_between week (day_of c.args.date)) to.1)
