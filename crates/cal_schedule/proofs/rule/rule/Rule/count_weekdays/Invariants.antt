use Rattle.std.proofs.Common.{◌≡◌, ◌+◌, ◌≤◌}
use Rattle.cal_time.specs.IsoWeekDate.{count_before}
use Rattle.cal_schedule.specs.Rule.{passes}
use Rattle.cal_schedule.proofs.rule.rule.Rule.count_weekdays.Given as goal

abbrev pub invariant-loop-index : goal.invariant-loop-index
invariant-loop-index l = record {
  counted : l.count + count_before (passes l.self) l.fn.from ≡ count_before (passes l.self) (l.fn.from + l.index);
  most : l.count ≤ l.index;
}
