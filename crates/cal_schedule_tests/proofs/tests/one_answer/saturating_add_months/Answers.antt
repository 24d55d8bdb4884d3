use Rattle.cal_schedule.proofs.OneAnswer.{held-one}
use Rattle.cal_schedule_tests.proofs.tests.one_answer.saturating_add_months.Goals as goal

pub returns : goal.returns
returns c =
    let r = c.saturating_add_months.ensures in
    let s = c.saturating_add_months-2.ensures in
    held-one _ _ _ _ r.value r.before r.past s.value s.before s.past
