use Rattle.cal_schedule.proofs.OneAnswer.{refused-one}
use Rattle.cal_holidays.proofs.one_answer.easter.Goals as goal

pub returns : goal.returns
returns c =
    let r = c.easter.ensures in
    let s = c.easter-2.ensures in
    refused-one _ _ _ _ r.every r.value r.error_kind s.every s.value s.error_kind
