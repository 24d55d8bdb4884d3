use Rattle.std.proofs.Common.{◌-◌, ℕ, ◌<◌, ◌≤◌, length, get_or, pos, ◌<ℤ◌, ◌≤ℤ◌}
use Rattle.cal_time.specs.IsoWeekDate.{count_before}
use Rattle.cal_schedule.specs.Workdays.{is_workday}
use Rattle.cal_c.specs.CheckedWorkdays.{week_of, AreCounted}
use Rattle.cal_c.specs.Values.{dates_in}
use Rattle.cal_c.proofs.schedule.workdays.ranks.RankedWorkdays.holidays_passed.Given as goal

abbrev pub invariant-loop-low : goal.invariant-loop-low
invariant-loop-low l = record {
  order : l.low ≤ l.high;
  most : l.high ≤ length l.self.holidays;
  before : AreCounted l.self → (j : ℕ) → j < l.low → pos (count_before (is_workday (week_of l.self)) (get_or (dates_in l.self.holidays) j 0)) ≤ℤ l.rank;
  after : AreCounted l.self → (j : ℕ) → l.high ≤ j → j < length (dates_in l.self.holidays)
      → l.rank <ℤ pos (count_before (is_workday (week_of l.self)) (get_or (dates_in l.self.holidays) j 0));
}

abbrev pub decreases-loop-low : goal.decreases-loop-low
decreases-loop-low l = l.high - l.low
