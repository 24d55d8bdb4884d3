use Rattle.cal_c.proofs.OneRepeat.{dates-one}
use Rattle.cal_c.proofs.texts.intervals.laws.one_repeated_result.Goals as goal

pub returns : goal.returns
returns c = λ v r s. dates-one v.0 v.1 r s
