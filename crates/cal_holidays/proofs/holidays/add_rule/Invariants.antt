use Rattle.std.proofs.Common.{◌⊎◌, ℕ, ◌≤◌, length, take}
use Rattle.std.specs.Prelude.{◌↔◌, Contains}
use Rattle.cal_time.specs.Counted.{IsRising}
use Rattle.cal_time.specs.Date.{julian_day_at}
use Rattle.cal_holidays.proofs.HolidayLists.{IsHolidayBelow}
use Rattle.cal_holidays.proofs.holidays.add_rule.Given as goal

abbrev pub invariant-loop-year : goal.invariant-loop-year
invariant-loop-year l = record {
  most : l.filled ≤ length l.days;
  rising : IsRising julian_day_at (take l.filled l.days);
  each : (n : ℕ) → Contains (take l.filled l.days) n ↔ IsHolidayBelow l.rule l.first l.last l.low l.year n ⊎ Contains (take l.fn.count l.fn.days) n;
}
