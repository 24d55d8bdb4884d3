use Rattle.std.proofs.Common.{rules}
use Rattle.cal_time.proofs.RoundTrips.{whole_days-of_days}
use Rattle.guide.proofs.callers.days_later.Goals as goal

pub returns-clause-found : goal.returns-clause-found
returns-clause-found c = search (rules, whole_days-of_days)

pub returns-clause-none : goal.returns-clause-none
returns-clause-none c = search (rules, whole_days-of_days)
