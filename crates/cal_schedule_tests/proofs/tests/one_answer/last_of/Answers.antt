use Rattle.cal_schedule.proofs.OneAnswer.{last_of-both}
use Rattle.cal_schedule_tests.proofs.tests.one_answer.last_of.Goals as goal

pub returns : goal.returns
returns c =
    let r = c.last_of.ensures in
    let s = c.last_of-2.ensures in
    last_of-both c.args.unit c.args.date _ _ r.value r.none s.value s.none
