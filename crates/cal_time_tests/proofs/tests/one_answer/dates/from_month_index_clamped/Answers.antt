use Rattle.cal_time.specs.Laws.{calendar_date-one}
use Rattle.cal_time_tests.proofs.tests.one_answer.dates.from_month_index_clamped.Goals as goal

pub returns : goal.returns
returns c =
    let r = c.from_month_index_clamped.ensures in
    let s = c.from_month_index_clamped-2.ensures in
    calendar_date-one _ _ _ _ _ r.range s.range r.value s.value
