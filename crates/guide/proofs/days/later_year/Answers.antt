use Rattle.std.proofs.Common.{rules}
use Rattle.cal_time.specs.Components.{year_at-rises}
use Rattle.guide.proofs.days.later_year.Goals as goal

pub returns : goal.returns
returns c = search (rules, year_at-rises)
