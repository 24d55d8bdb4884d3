use Rattle.cal_time.proofs.OneAnswer.{pair_at-one}
use Rattle.cal_time_tests.proofs.tests.one_answer.arithmetic.sub_from_pair.Goals as goal

pub returns : goal.returns
returns c = pair_at-one _ _ _ c.sub_from_pair.ensures c.sub_from_pair-2.ensures
