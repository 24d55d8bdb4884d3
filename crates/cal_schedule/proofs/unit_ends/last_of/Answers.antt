use Rattle.std.proofs.Common.{sym, subst, ℕ}
use Rattle.std.specs.Prelude.{IfSome}
use Rattle.cal_time.specs.Date.{IsDate}
use Rattle.cal_schedule.specs.declared.unit.CalendarUnit.{CalendarUnit}
use Rattle.cal_schedule.specs.Units.{IsLastOf}
use Rattle.cal_schedule.proofs.UntilBy.{week_last}
use Rattle.cal_schedule.proofs.unit_ends.last_of.Goals as goal

pub returns-in-Week-clause-value : goal.returns-in-Week-clause-value
returns-in-Week-clause-value c =
    subst (λ (u : CalendarUnit). IfSome c.last_of_iso_week.result (λ (r : ℕ). IsDate r × IsLastOf u c.args.date r)) (sym c.in-Week.is)
    (week_last c.args.date c.last_of_iso_week.result c.last_of_iso_week.ensures.value)
