use Rattle.std.proofs.Common.{sym, subst, arith}
use Rattle.cal_time.specs.Date.{IsDate}
use Rattle.cal_time.specs.DateLimits.{MIN-number}
use Rattle.cal_format.proofs.value.first_date.Goals as goal

pub returns-clause-value : goal.returns-clause-value
returns-clause-value c = MIN-number

pub returns-clause-range : goal.returns-clause-range
returns-clause-range c = subst IsDate (sym MIN-number) (omega arith)
