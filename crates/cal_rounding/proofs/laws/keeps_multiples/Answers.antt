use Rattle.cal_rounding.proofs.OneResult.{rounded-multiple}
use Rattle.cal_rounding.proofs.laws.keeps_multiples.Goals as goal

pub returns : goal.returns
returns c = rounded-multiple
