use Rattle.cal_time.proofs.OneAnswer.{pair_at-one}
use Rattle.cal_time_tests.proofs.tests.one_answer.arithmetic.add_to_pair.Goals as goal

pub returns : goal.returns
returns c = pair_at-one _ _ _ c.add_to_pair.ensures c.add_to_pair-2.ensures
