use Rattle.cal_c.proofs.OneRepeat.{pairs-one}
use Rattle.cal_c.proofs.texts.intervals.laws.one_repeated_pairs_result.Goals as goal

pub returns : goal.returns
returns c = λ v r s. pairs-one v.0 v.1 r s
