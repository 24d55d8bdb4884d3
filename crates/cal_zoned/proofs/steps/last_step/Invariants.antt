use Rattle.std.proofs.Common.{◌-◌, ◌<◌, ◌≤◌, pos, ℤ, ◌≤ℤ◌, ◌<ℤ◌}
use Rattle.cal_zoned.specs.Steps.{end_of_steps, IsStepUpTo}
use Rattle.cal_zoned.proofs.steps.last_step.Given as goal

abbrev pub invariant-loop-high : goal.invariant-loop-high
invariant-loop-high l = record {
  less : l.low < l.high;
  most : l.high ≤ end_of_steps;
  reached : IsStepUpTo l.start l.reading l.period (pos l.low);
  past : (k : ℤ) → pos l.high ≤ℤ k → k <ℤ pos end_of_steps → ¬ IsStepUpTo l.start l.reading l.period k;
}

abbrev pub decreases-loop-high : goal.decreases-loop-high
decreases-loop-high l = l.high - l.low
