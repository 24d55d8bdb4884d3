use Rattle.cal_time.proofs.OneAnswer.{of_three_bounds-one}
use Rattle.cal_time_tests.proofs.tests.one_answer.offsets.from_hms.Goals as goal

pub returns : goal.returns
returns c =
    let r = c.from_hms.ensures in
    let s = c.from_hms-2.ensures in
    of_three_bounds-one _ _ _ _ _ _ _ _ _ _ _ _ r.hour s.hour r.minute s.minute r.second s.second r.value s.value
