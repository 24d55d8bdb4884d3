use Rattle.cal_time.proofs.OneAnswer.{of_two_refusals-one}
use Rattle.cal_schedule_tests.proofs.tests.one_answer.nth_weekday_of_month.Goals as goal

pub returns : goal.returns
returns c =
    let r = c.nth_weekday_of_month.ensures in
    let s = c.nth_weekday_of_month-2.ensures in
    of_two_refusals-one _ _ _ _ _ _ _ r.every s.value s.error_kind r.year s.year r.weekday s.weekday
