use Rattle.std.proofs.Common.{◌≡◌, ℕ, ◌<◌, ◌≤◌, get_or, length}
use Rattle.cal_schedule.specs.WorkdaysSplit.{marked_count}
use Rattle.cal_c.specs.Weekmasks.{work_week}
use Rattle.cal_c.proofs.schedule.workdays.checking.count_marked.Given as goal

abbrev pub invariant-loop-index : goal.invariant-loop-index
invariant-loop-index l = record {
  room : length l.holidays < length l.marked_before;
  counts : (i : ℕ) → i ≤ l.index → get_or l.marked_before i 0 ≡ marked_count (work_week l.weekmask l.holidays) i;
  marked : l.marked ≡ marked_count (work_week l.weekmask l.holidays) l.index;
  most : l.marked ≤ l.index;
}
