use Rattle.std.proofs.Common.{ℕ, ◌≤◌, length, take}
use Rattle.std.specs.Prelude.{◌↔◌, Contains}
use Rattle.cal_time.specs.Counted.{IsRising}
use Rattle.cal_time.specs.Date.{julian_day_at}
use Rattle.cal_holidays.proofs.HolidayLists.{IsHolidayOfFirst}
use Rattle.cal_holidays.proofs.holidays.add_rules.Given as goal

abbrev pub invariant-loop-rule : goal.invariant-loop-rule
invariant-loop-rule l = record {
  most : l.count ≤ length l.days;
  rising : IsRising julian_day_at (take l.count l.days);
  each : (n : ℕ) → Contains (take l.count l.days) n ↔ IsHolidayOfFirst l.rules l.first l.last l.rule-index n;
}
