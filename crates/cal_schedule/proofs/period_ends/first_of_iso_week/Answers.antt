use Rattle.std.proofs.Common.{◌-◌, refl, arith}
use Rattle.std.proofs.lemmas.Int.{ints}
use Rattle.cal_time.specs.Date.{weekday_at}
use Rattle.cal_time.specs.Laws.{weekday_at-is}
use Rattle.cal_schedule.proofs.Ends.{same_week}
use Rattle.cal_schedule.proofs.period_ends.first_of_iso_week.Goals as goal

pub unreachable-requires : goal.unreachable-requires
unreachable-requires c = c.in-Err.ensures.error.0 refl (c.args.date - weekday_at c.args.date) (omega (arith, c.weekday.ensures.in_range)) (omega (arith, ints, weekday_at-is c.args.date, c.weekday.ensures.value))

pub returns-clause-value : goal.returns-clause-value
returns-clause-value c = same_week c.in-Ok.monday c.args.date 0 (omega (arith, ints, weekday_at-is c.args.date, weekday_at-is c.in-Ok.monday, c.in-Ok.ensures.value.1, c.weekday.ensures.value)) (omega (arith, ints, weekday_at-is c.args.date, c.in-Ok.ensures.value.1, c.weekday.ensures.value))
