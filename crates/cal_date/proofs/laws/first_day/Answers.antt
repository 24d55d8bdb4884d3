use Rattle.std.proofs.Common.{refl}
use Rattle.cal_date.specs.Date.{day_at}
use Rattle.cal_date.specs.DateLimits.{MIN-number}
use Rattle.cal_date.proofs.laws.first_day.Goals as goal

pub returns-clause-value : goal.returns-clause-value
returns-clause-value c = MIN-number

pub returns-clause-day : goal.returns-clause-day
returns-clause-day c = unfold day_at in refl
