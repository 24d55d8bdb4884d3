use Rattle.cal_schedule.proofs.OneAnswer.{moved-one}
use Rattle.cal_schedule_tests.proofs.tests.one_answer.checked_add_years.Goals as goal

pub returns : goal.returns
returns c =
    let r = c.checked_add_years.ensures in
    let s = c.checked_add_years-2.ensures in
    moved-one _ _ _ r.every r.value s.every s.value
