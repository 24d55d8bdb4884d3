use Rattle.std.proofs.Common.{rules}
use Rattle.cal_time.specs.Components.{iso_week_date-same}
use Rattle.guide.proofs.callers.iso_week_date_through.Goals as goal

pub returns-in-Ok : goal.returns-in-Ok
returns-in-Ok c = search (rules, iso_week_date-same)
