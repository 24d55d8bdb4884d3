use Rattle.std.proofs.Common.{ap, ◌∙◌, arith}
use Rattle.std.proofs.lemmas.Int.{ints}
use Rattle.cal_time.specs.IsoWeekDate.{count_before}
use Rattle.cal_schedule.specs.Workdays.{is_marked}
use Rattle.cal_schedule.proofs.WorkdaysWeeks.{rises, ranks}
use Rattle.cal_c.specs.CheckedWorkdays.{week_of}
use Rattle.cal_c.specs.Values.{dates_in}
use Rattle.cal_c.proofs.schedule.workdays.ranks.RankedWorkdays.rank.Goals as goal

pub returns-clause-value : goal.returns-clause-value
returns-clause-value c = λ checked.
    let days = dates_in c.args.self.now.holidays in
    let sum = ranks (week_of c.args.self.now) (rises days checked.holidays.rising) _ c.args.day (c.holidays_before.ensures.split checked) in
    let marked = c.marked_before.ensures.value ∙ ap (λ m. count_before (is_marked m) c.args.day) c.week.ensures in
    omega (arith, ints, sum, c.marked_holidays-holidays.ensures.value checked, marked)
