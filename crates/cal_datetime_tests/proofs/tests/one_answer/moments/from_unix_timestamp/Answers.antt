use Rattle.cal_datetime_tests.proofs.OneAnswer.{in_range-one}
use Rattle.cal_datetime_tests.proofs.tests.one_answer.moments.from_unix_timestamp.Goals as goal

pub returns : goal.returns
returns c =
    let r = c.from_unix_timestamp.ensures in
    let s = c.from_unix_timestamp-2.ensures in
    in_range-one _ _ _ _ r.value r.error s.value s.error
