use Rattle.cal_schedule.proofs.OneAnswer.{first_of-one}
use Rattle.cal_schedule_tests.proofs.tests.one_answer.first_of.Goals as goal

pub returns : goal.returns
returns c =
    let r = c.first_of.ensures in
    let s = c.first_of-2.ensures in
    first_of-one c.args.unit c.args.date _ _ r.in_range.1 s.in_range.1 r.value s.value
