use Rattle.std.proofs.Common.{arith}
use Rattle.std.proofs.lemmas.Int.{ints, to_z-of_z}
use Rattle.cal_schedule.proofs.WorkdaysWeeks.{rises}
use Rattle.cal_schedule.proofs.WorkdaysSearch.{ranked}
use Rattle.cal_c.specs.CheckedWorkdays.{week_of}
use Rattle.cal_c.specs.Values.{dates_in}
use Rattle.cal_c.proofs.schedule.workdays.ranks.RankedWorkdays.day_of_rank.Goals as goal

pub returns-clause-value : goal.returns-clause-value
returns-clause-value c = λ checked.
    let f = c.ranges.rank in
    let passed = simp to_z-of_z at c.holidays_passed.ensures.passed checked in
    ranked (week_of c.args.self.now) _ (rises (dates_in c.args.self.now.holidays) checked.holidays.rising) c.args.rank _ c.nth_marked.result c.week.ensures
    (c.holidays_passed.result, passed, omega (arith, ints, c.marked_holidays-holidays.ensures.value checked)) c.nth_marked.ensures
