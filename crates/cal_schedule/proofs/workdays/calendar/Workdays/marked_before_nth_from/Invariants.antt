use Rattle.std.proofs.Common.{◌≡◌, ℕ, ◌+◌, ◌<◌, get_or, pos, ◌+ℤ◌, ◌≤ℤ◌}
use Rattle.cal_time.specs.Date.{last_day}
use Rattle.cal_time.specs.IsoWeekDate.{count_before}
use Rattle.cal_schedule.specs.Workdays.{is_workday}
use Rattle.cal_schedule.specs.WorkdaysSplit.{marked_count}
use Rattle.cal_schedule.proofs.workdays.calendar.Workdays.marked_before_nth_from.Given as goal

abbrev pub invariant-loop-index : goal.invariant-loop-index
invariant-loop-index l = record {
  number : l.before ≡ pos (count_before (is_workday l.self) l.from + l.n) +ℤ pos (marked_count l.self l.index);
  passed : (j : ℕ) → j < l.index → pos (count_before (is_workday l.self) (get_or l.self.holidays j 0)) ≤ℤ pos (count_before (is_workday l.self) l.from + l.n);
  most : l.before ≤ℤ pos (l.from + l.n + l.index);
  bound : l.before ≤ℤ pos (l.from + l.n + last_day + 1);
}
