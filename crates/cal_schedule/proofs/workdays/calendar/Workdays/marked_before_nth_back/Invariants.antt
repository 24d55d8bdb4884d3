use Rattle.std.proofs.Common.{◌≡◌, ℕ, ◌+◌, ◌<◌, ◌≤◌, get_or, length, pos, ◌+ℤ◌, ◌-ℤ◌, ◌<ℤ◌, ◌≤ℤ◌}
use Rattle.cal_time.specs.IsoWeekDate.{count_before}
use Rattle.cal_schedule.specs.Workdays.{is_workday}
use Rattle.cal_schedule.specs.WorkdaysSplit.{marked_count}
use Rattle.cal_schedule.proofs.workdays.calendar.Workdays.marked_before_nth_back.Given as goal

abbrev pub invariant-loop-index : goal.invariant-loop-index
invariant-loop-index l = record {
  number : l.before ≡ (pos (count_before (is_workday l.self) l.to) -ℤ pos (l.n + 1)) +ℤ pos (marked_count l.self l.index);
  within : l.index ≤ length l.self.holidays;
  left : (j : ℕ) → l.index ≤ j → j < length l.self.holidays → (pos (count_before (is_workday l.self) l.to) -ℤ pos (l.n + 1)) <ℤ pos (count_before (is_workday l.self) (get_or l.self.holidays j 0));
  most : l.before ≤ℤ pos l.to;
}

abbrev pub decreases-loop-index : goal.decreases-loop-index
decreases-loop-index l = l.index
