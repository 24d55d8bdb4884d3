use Rattle.std.proofs.Common.{◌≡◌, ℕ, ◌+◌, ◌-◌, ◌<◌, ◌≤◌, false}
use Rattle.cal_schedule.specs.Rule.{allows, is_nth}
use Rattle.cal_schedule.proofs.rule.rule.Rule.count_without_position.Given as goal

abbrev pub invariant-loop-days : goal.invariant-loop-days
invariant-loop-days l = record {
  less : l.days < l.fn.back;
  none : (k : ℕ) → 1 ≤ k → k ≤ l.days → allows (λ p. is_nth p (l.fn.ahead + k) (l.fn.back - k)) l.self.pattern.set_positions ≡ false;
}

abbrev pub decreases-loop-days : goal.decreases-loop-days
decreases-loop-days l = l.fn.back - l.days
