use Rattle.std.proofs.Common.{ap, ◌∙◌, sym}
use Rattle.std.proofs.lemmas.Int.{to_z-of_z}
use Rattle.cal_schedule.specs.WorkdaysConvention.{adjusted_date}
use Rattle.cal_c.specs.CheckedWorkdays.{week_of}
use Rattle.cal_c.specs.Results.{date_or_out_of_range}
use Rattle.cal_c.proofs.Schedules.{same_convention}
use Rattle.cal_c.proofs.Needs.{met}
use Rattle.cal_c.proofs.schedule.workdays.calls.adjust.Goals as goal

pub returns-clause-any : goal.returns-clause-any
returns-clause-any c =
    let f = c.ranges.date in
    let at = simp to_z-of_z at c.in-Some.ensures in
    let by = c.in-Some-valid_convention.ensures in
    met at.0 (met by.0 (c.adjust.result, c.adjust.ensures.range, c.date_result.ensures))

pub returns-clause-value : goal.returns-clause-value
returns-clause-value c =
    let f = c.ranges.date in
    let at = simp to_z-of_z at c.in-Some.ensures in
    let by = c.in-Some-valid_convention.ensures in
    let week = week_of c.args.workdays.now in
    λ checked h way number. c.date_result.ensures ∙ ap date_or_out_of_range
    (c.adjust.ensures.value checked ∙ ap (λ q. adjusted_date week q c.in-Some.value) (same_convention _ way (by.1 ∙ sym number)) ∙ ap (adjusted_date week way) at.1)
