use Rattle.cal_c.proofs.OneRounded.{duration_rounded-one, moment_rounded-one, pair_rounded-one, time_rounded-one}
use Rattle.cal_c.proofs.rounding.laws.one_rounded_result.Goals as goal

pub returns : goal.returns
returns c = record { time = time_rounded-one; pair = pair_rounded-one; moment = moment_rounded-one; duration = duration_rounded-one }
