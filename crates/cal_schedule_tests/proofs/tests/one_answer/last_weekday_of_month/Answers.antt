use Rattle.cal_schedule.proofs.OneAnswer.{refused-one}
use Rattle.cal_schedule_tests.proofs.tests.one_answer.last_weekday_of_month.Goals as goal

pub returns : goal.returns
returns c =
    let r = c.last_weekday_of_month.ensures in
    let s = c.last_weekday_of_month-2.ensures in
    refused-one _ _ _ _ r.every r.value r.error_kind s.every s.value s.error_kind
