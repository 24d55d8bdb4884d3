use Rattle.std.proofs.Common.{◌-◌, ℕ, ◌<◌, ◌≤◌, length, get_or}
use Rattle.cal_c.specs.CheckedWorkdays.{AreCounted}
use Rattle.cal_c.specs.Values.{dates_in}
use Rattle.cal_c.proofs.schedule.workdays.ranks.RankedWorkdays.holidays_before.Given as goal

abbrev pub invariant-loop-low : goal.invariant-loop-low
invariant-loop-low l = record {
  order : l.low ≤ l.high;
  most : l.high ≤ length l.self.holidays;
  before : AreCounted l.self → (j : ℕ) → j < l.low → get_or (dates_in l.self.holidays) j 0 < l.day;
  after : AreCounted l.self → (j : ℕ) → l.high ≤ j → j < length (dates_in l.self.holidays) → l.day ≤ get_or (dates_in l.self.holidays) j 0;
}

abbrev pub decreases-loop-low : goal.decreases-loop-low
decreases-loop-low l = l.high - l.low
