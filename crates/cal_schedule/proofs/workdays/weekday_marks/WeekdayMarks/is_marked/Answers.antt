use Rattle.std.proofs.Common.{sym, ap, ◌∙◌, ◌%◌, get_or, false}
use Rattle.cal_schedule.proofs.WorkdaysWeeks.{marked-is}
use Rattle.cal_schedule.proofs.workdays.weekday_marks.WeekdayMarks.is_marked.Goals as goal

pub returns : goal.returns
returns c = ap (λ m. get_or m (c.args.day % 7) false) c.self.view_is ∙ sym (marked-is c.args.self.now c.args.day)
