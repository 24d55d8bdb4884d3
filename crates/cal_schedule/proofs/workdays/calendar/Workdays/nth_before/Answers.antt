use Rattle.std.proofs.Common.{◌+◌, pos, ◌-ℤ◌, refl, ◌∙◌, rules, FitsSigned, w64}
use Rattle.std.proofs.lemmas.Int.{to_z-of_z}
use Rattle.cal_time.specs.IsoWeekDate.{count_before}
use Rattle.cal_schedule.specs.Workdays.{is_workday}
use Rattle.cal_schedule.specs.WorkdaysSplit.{IsRanked}
use Rattle.cal_schedule.proofs.WorkdaysWeeks.{rises}
use Rattle.cal_schedule.proofs.WorkdaysSearch.{ranked, back-rank}
use Rattle.cal_schedule.proofs.workdays.calendar.Workdays.nth_before.Goals as goal
use Rattle.cal_schedule.proofs.workdays.calendar.Workdays.nth_before.Goals.{After-some_date}

found : (c : After-some_date) → IsRanked (is_workday c.args.self.now) (pos (count_before (is_workday c.args.self.now) c.args.to) -ℤ pos (c.args.n + 1)) c.nth_marked.result
found c =
    let before = c.marked_before_nth_back in
    let fits : FitsSigned w64 before.result = search rules in
    ranked c.args.self.now _ (rises _ c.week-week.ensures.rising) _ _ _ c.week-week.ensures.value before.ensures.value (simp to_z-of_z at c.nth_marked.ensures)

pub returns-clause-value : goal.returns-clause-value
returns-clause-value c = c.some_date.ensures ∙ (back-rank c.args.self.now c.args.to c.args.n _ _ c.requires refl (found c)).0

pub returns-clause-found : goal.returns-clause-found
returns-clause-found c = rw c.some_date.ensures (back-rank c.args.self.now c.args.to c.args.n _ _ c.requires refl (found c)).1
