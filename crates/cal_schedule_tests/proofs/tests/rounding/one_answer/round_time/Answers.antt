use Rattle.cal_rounding.proofs.OneResult.{time-one}
use Rattle.cal_schedule_tests.proofs.tests.rounding.one_answer.round_time.Goals as goal

pub returns : goal.returns
returns c = time-one _ _ _ _ _ c.length.ensures.range.positive c.round_time.ensures c.round_time-2.ensures
