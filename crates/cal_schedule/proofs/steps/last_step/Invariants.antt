use Rattle.std.proofs.Common.{◌-◌, ◌<◌, ◌≤◌, pos}
use Rattle.cal_schedule.specs.Steps.{IsStepUpTo}
use Rattle.cal_schedule.proofs.steps.last_step.Given as goal

abbrev pub invariant-loop-high : goal.invariant-loop-high
invariant-loop-high l = record {
  less : l.low < l.high;
  most : l.high ≤ 1_073_741_824;
  reached : IsStepUpTo l.start l.date l.period (pos l.low);
  past : ¬ IsStepUpTo l.start l.date l.period (pos l.high);
}

abbrev pub decreases-loop-high : goal.decreases-loop-high
decreases-loop-high l = l.high - l.low
