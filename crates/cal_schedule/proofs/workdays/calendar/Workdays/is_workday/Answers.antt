use Rattle.std.proofs.Common.{ap, ◌∙◌}
use Rattle.cal_schedule.specs.Workdays.{is_marked}
use Rattle.cal_schedule.proofs.WorkdaysWeeks.{workday-by_mark, workday-by_holiday}
use Rattle.cal_schedule.proofs.workdays.calendar.Workdays.is_workday.Goals as goal

pub returns-then-is_marked-clause-value : goal.returns-then-is_marked-clause-value
returns-then-is_marked-clause-value c =
    workday-by_holiday c.args.self.now c.args.date _ _ _ c.day_number-day.ensures.value (c.is_marked.ensures ∙ ap (λ m. is_marked m c.day_number-day.result) c.week.ensures.value) c.if-is_marked.true c.is_holiday.ensures

pub returns-else-is_marked-clause-value : goal.returns-else-is_marked-clause-value
returns-else-is_marked-clause-value c = workday-by_mark c.args.self.now c.args.date _ _ c.day_number-day.ensures.value (c.is_marked.ensures ∙ ap (λ m. is_marked m c.day_number-day.result) c.week.ensures.value) c.if-is_marked.false
