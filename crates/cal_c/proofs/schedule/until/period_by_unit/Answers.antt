use Rattle.std.proofs.Common.{sym, subst}
use Rattle.cal_schedule.specs.Period.{Parts}
use Rattle.cal_schedule.specs.Units.{IsUntilBy}
use Rattle.cal_c.specs.Schedule.{IsPeriodWith}
use Rattle.cal_c.proofs.Schedules.{period-with}
use Rattle.cal_c.proofs.schedule.until.period_by_unit.Goals as goal

pub returns : goal.returns
returns c =
    let Has : Parts → Type 0 = IsUntilBy c.args.unit c.args.date c.args.other in
    let found = c.period_until_by.ensures in
    subst (IsPeriodWith Has) (sym c.ok.ensures) (period-with Has c.period_until_by.result found.no_clock found)
