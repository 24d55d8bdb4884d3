use Rattle.std.proofs.Common.{sym}
use Rattle.cal_format.proofs.EnglishNames.{same-month}
use Rattle.cal_format.proofs.moment.Moment.month.Goals as goal

pub returns : goal.returns
returns c = sym (same-month c.month.result _ c.month.ensures.value)
