use Rattle.cal_time.specs.Laws.{calendar_date-one}
use Rattle.cal_schedule_tests.proofs.tests.one_answer.first_of_year.Goals as goal

pub returns : goal.returns
returns c =
    let r = c.first_of_year.ensures in
    let s = c.first_of_year-2.ensures in
    calendar_date-one _ _ _ _ _ r.in_range.1 s.in_range.1 r.value s.value
