use Rattle.cal_format.proofs.FormatErrors.{one-error}
use Rattle.cal_format.proofs.laws.one_error.Goals as goal

pub returns : goal.returns
returns c s e f first other = one-error s 0 0 _ e f first other
