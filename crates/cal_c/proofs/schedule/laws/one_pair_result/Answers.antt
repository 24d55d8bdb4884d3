use Rattle.cal_schedule.specs.Period.{days_of, months_of}
use Rattle.std.specs.Prelude.{◌*ℤ◌}
use Rattle.cal_c.proofs.OnePair.{pair_after-one, period_until_pair-one, step-one}
use Rattle.cal_c.proofs.schedule.laws.one_pair_result.Goals as goal

pub returns : goal.returns
returns c = record {
  after = λ from period n. pair_after-one from (n *ℤ months_of period) (n *ℤ days_of period) (n *ℤ period.exact);
  step = step-one;
  period_until = period_until_pair-one;
}
