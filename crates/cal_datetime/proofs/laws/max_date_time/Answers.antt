use Rattle.std.proofs.Common.{ap, arith}
use Rattle.cal_time.specs.DateLimits.{MAX-number}
use Rattle.cal_datetime.specs.DateTime.{date_time}
use Rattle.cal_datetime.proofs.laws.max_date_time.Goals as goal

pub returns : goal.returns
returns c = ap (λ n. date_time n 86_399_999_999_999) MAX-number

pub invariant_of-result-3 : goal.invariant_of-result-3
invariant_of-result-3 c = (omega (arith, MAX-number), record { below_day = omega arith })
