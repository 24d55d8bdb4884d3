use Rattle.std.proofs.Common.{◌≤◌}
use Rattle.cal_time.specs.IsoWeekDate.{count_before}
use Rattle.cal_schedule.specs.Workdays.{is_marked}
use Rattle.cal_schedule.proofs.workdays.weekday_marks.WeekdayMarks.nth_index.Given as goal

abbrev pub invariant-loop-index : goal.invariant-loop-index
invariant-loop-index l = count_before (is_marked l.self) l.index ≤ l.n
