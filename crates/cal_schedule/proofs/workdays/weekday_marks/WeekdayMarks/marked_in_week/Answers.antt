use Rattle.std.proofs.Common.{arith}
use Rattle.cal_schedule.specs.Ranks.{count-most}
use Rattle.cal_schedule.specs.Workdays.{is_marked}
use Rattle.cal_schedule.proofs.workdays.weekday_marks.WeekdayMarks.marked_in_week.Goals as goal

pub returns-clause-max : goal.returns-clause-max
returns-clause-max c =
    omega (arith, c.self.invariant c.args.index c.requires, count-most (is_marked c.self.inside.marks) c.args.index)
