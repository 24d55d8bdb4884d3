use Rattle.cal_time.proofs.OneAnswer.{extent-one}
use Rattle.cal_time_tests.proofs.tests.one_answer.counted.extent.Goals as goal

pub returns : goal.returns
returns g c = extent-one g.T.Counted.number_of c.args.items.now _ _ c.extent.ensures c.extent-2.ensures
