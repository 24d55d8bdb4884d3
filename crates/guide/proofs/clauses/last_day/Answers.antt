use Rattle.cal_time.specs.DateLimits.{MAX-number}
use Rattle.guide.proofs.clauses.last_day.Goals as goal

pub returns : goal.returns
returns c = MAX-number
