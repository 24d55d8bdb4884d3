use Rattle.std.specs.Prelude.{ℤ}
use Rattle.cal_rounding.proofs.OneResult.{date_time-one}
use Rattle.cal_schedule_tests.proofs.tests.rounding.one_answer.round_date_time.Goals as goal

pub returns : goal.returns
returns c = date_time-one _ _ _ (λ (z : ℤ). z) _ _ c.length.ensures.range.positive c.round_date_time.ensures c.round_date_time-2.ensures
