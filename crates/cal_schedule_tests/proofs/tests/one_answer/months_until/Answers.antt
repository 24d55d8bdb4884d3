use Rattle.std.proofs.Common.{◌≡◌, ap, to_z, of_z, w32}
use Rattle.cal_schedule.proofs.OneAnswer.{until-one}
use Rattle.cal_schedule_tests.proofs.tests.one_answer.months_until.Goals as goal

pub returns : goal.returns
returns c =
    let r = c.months_until.ensures in
    let s = c.months_until-2.ensures in
    let same : c.months_until.result ≡ c.months_until-2.result = until-one _ _ _ _ _ _ r.value_forward r.value_backward s.value_forward s.value_backward in
    ap (λ z. to_z w32 (of_z w32 z)) same
