use Rattle.cal_time.proofs.OneAnswer.{of_three_refusals-one}
use Rattle.cal_time_tests.proofs.tests.one_answer.dates.from_iso_week_date.Goals as goal

pub returns : goal.returns
returns c =
    let r = c.from_iso_week_date.ensures in
    let s = c.from_iso_week_date-2.ensures in
    of_three_refusals-one _ _ _ _ _ _ _ _ _ r.every s.value s.error_kind r.year s.year r.week s.week r.weekday s.weekday
