use Rattle.std.proofs.Common.{◌+◌, ◌-◌, refl, arith}
use Rattle.std.proofs.lemmas.Int.{ints}
use Rattle.cal_time.specs.Date.{weekday_at}
use Rattle.cal_time.specs.Laws.{weekday_at-is}
use Rattle.cal_schedule.proofs.Ends.{same_week}
use Rattle.cal_schedule.proofs.period_ends.last_of_iso_week.Goals as goal

pub returns-in-Ok-clause-date : goal.returns-in-Ok-clause-date
returns-in-Ok-clause-date c = same_week c.in-Ok.sunday c.args.date 6 (omega (arith, ints, weekday_at-is c.args.date, weekday_at-is c.in-Ok.sunday, c.in-Ok.ensures.value.1, c.weekday.ensures.value)) (omega (arith, ints, weekday_at-is c.args.date, c.in-Ok.ensures.value.1, c.weekday.ensures.value))

pub returns-in-Err-clause-value : goal.returns-in-Err-clause-value
returns-in-Err-clause-value c h = c.in-Err.ensures.error.0 refl (c.args.date + 6 - weekday_at c.args.date) (omega arith) (omega (arith, ints, weekday_at-is c.args.date, c.weekday.ensures.value))
