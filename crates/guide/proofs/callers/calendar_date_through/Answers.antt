use Rattle.std.proofs.Common.{rules}
use Rattle.cal_time.specs.Components.{calendar_date-same}
use Rattle.guide.proofs.callers.calendar_date_through.Goals as goal

pub returns-in-Ok : goal.returns-in-Ok
returns-in-Ok c = search (rules, calendar_date-same)
