use Rattle.cal_rounding.proofs.OneResult.{rounded-one}
use Rattle.cal_rounding.proofs.laws.one_rounded.Goals as goal

pub returns : goal.returns
returns c = rounded-one
