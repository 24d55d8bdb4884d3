use Rattle.cal_schedule.proofs.WorkdaysWeeks.{weeks-sum}
use Rattle.cal_schedule.proofs.workdays.weekday_marks.WeekdayMarks.marked_before.Goals as goal

pub returns-clause-value : goal.returns-clause-value
returns-clause-value c = weeks-sum c.args.self.now c.args.day _ _ c.marked_in_week.ensures.value c.marked_in_week-2.ensures.value
