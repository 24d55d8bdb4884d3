use Rattle.std.proofs.Common.{ap, ◌∙◌}
use Rattle.std.proofs.lemmas.Int.{to_z-of_z}
use Rattle.cal_schedule.specs.Workdays.{nth_workday}
use Rattle.cal_c.specs.CheckedWorkdays.{week_of}
use Rattle.cal_c.specs.Results.{date_or_out_of_range}
use Rattle.cal_c.proofs.Needs.{met}
use Rattle.cal_c.proofs.schedule.workdays.calls.add.Goals as goal

pub returns-clause-any : goal.returns-clause-any
returns-clause-any c =
    let f = c.ranges.date in
    let at = simp to_z-of_z at c.in-Some.ensures in
    met at.0 (c.add.result, c.add.ensures.range, c.date_result.ensures)

pub returns-clause-value : goal.returns-clause-value
returns-clause-value c =
    let f = c.ranges.date in
    let at = simp to_z-of_z at c.in-Some.ensures in
    let g = c.ranges.days in
    let adds = simp to_z-of_z at c.add.ensures.value in
    λ checked is. c.date_result.ensures ∙ ap date_or_out_of_range (adds checked ∙ ap (nth_workday (week_of c.args.workdays.now) c.args.days) at.1)
