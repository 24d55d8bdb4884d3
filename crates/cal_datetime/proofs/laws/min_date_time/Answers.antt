use Rattle.std.proofs.Common.{ap, arith}
use Rattle.cal_time.specs.DateLimits.{MIN-number}
use Rattle.cal_datetime.specs.DateTime.{date_time}
use Rattle.cal_datetime.proofs.laws.min_date_time.Goals as goal

pub returns : goal.returns
returns c = ap (λ n. date_time n 0) MIN-number

pub invariant_of-result-3 : goal.invariant_of-result-3
invariant_of-result-3 c = (omega (arith, MIN-number), record { below_day = omega arith })
