use Rattle.std.proofs.Common.{◌≡◌, ℕ, ◌≤◌, get_or, length}
use Rattle.cal_time.specs.IsoWeekDate.{count_before}
use Rattle.cal_schedule.specs.Workdays.{is_marked}
use Rattle.cal_schedule.proofs.workdays.weekday_marks.WeekdayMarks.new.Given as goal

abbrev pub invariant-loop-index : goal.invariant-loop-index
invariant-loop-index l = record {
  length : length l.marks_before ≡ 8;
  counts : (i : ℕ) → i ≤ l.index → get_or l.marks_before i 0 ≡ count_before (is_marked l.marks) i;
}
