use Rattle.cal_schedule.proofs.OneAnswer.{step_of-one}
use Rattle.cal_schedule_tests.proofs.tests.one_answer.step_of.Goals as goal

pub returns : goal.returns
returns c =
    let r = c.step_of.ensures in
    let s = c.step_of-2.ensures in
    step_of-one c.args.start c.args.date c.args.period _ _ _ r.value r.some s.value s.some
