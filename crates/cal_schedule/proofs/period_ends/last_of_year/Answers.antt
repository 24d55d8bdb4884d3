use Rattle.std.proofs.Common.{ap, ◌∙◌, arith}
use Rattle.std.proofs.lemmas.Int.{ints}
use Rattle.cal_time.specs.CalendarDay.{calendar_day}
use Rattle.cal_time.specs.Date.{year_at}
use Rattle.cal_time.specs.Days.{month_at-range}
use Rattle.cal_schedule.specs.MonthLaws.{last-greatest}
use Rattle.cal_schedule.proofs.Ends.{december, last-same}
use Rattle.cal_schedule.proofs.period_ends.last_of_year.Goals as goal

pub returns-clause-value : goal.returns-clause-value
returns-clause-value c =
    last-same _ (year_at c.args.date) 12 12 _ (omega (arith, ints)) (omega arith) c.last_in_month.ensures.value ∙ ap (calendar_day (year_at c.args.date) 12) (december (year_at c.args.date))

pub returns-clause-min : goal.returns-clause-min
returns-clause-min c = last-greatest _ _ _ _ c.last_in_month.ensures.value (omega (arith, ints, month_at-range c.args.date))
