use Rattle.cal_schedule.proofs.OneAnswer.{until_by-one}
use Rattle.cal_schedule_tests.proofs.tests.one_answer.period_until_by.Goals as goal

pub returns : goal.returns
returns c = until_by-one c.args.unit c.args.from c.args.to _ _ c.period_until_by.ensures c.period_until_by-2.ensures
