use Rattle.std.proofs.Common.{◌≡◌, length}
use Rattle.cal_recurrence.specs.ClockPeriods.{numbers_below}
use Rattle.cal_recurrence.proofs.times_of_day.numbers_below.Given as goal

abbrev pub invariant-loop-value : goal.invariant-loop-value
invariant-loop-value l = record {
  values : l.values ≡ numbers_below l.value;
  few : length l.values ≡ l.value;
}
