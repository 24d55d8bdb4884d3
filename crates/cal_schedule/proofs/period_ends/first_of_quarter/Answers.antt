use Rattle.std.proofs.Common.{◌-◌, ◌%◌, arith}
use Rattle.std.proofs.lemmas.Int.{ints}
use Rattle.cal_time.specs.Days.{month_at-range}
use Rattle.cal_time.specs.MonthCycle.{index-month_of_index}
use Rattle.cal_schedule.specs.MonthLaws.{first-least}
use Rattle.cal_schedule.proofs.period_ends.first_of_quarter.Goals as goal

pub returns-clause-max : goal.returns-clause-max
returns-clause-max c = first-least _ _ _ _ c.first_in_month.ensures.value (rw c.at.ensures (omega (arith, ints, month_at-range c.args.date, index-month_of_index (c.place-index.result - c.place-index.result % 3) (omega (arith, month_at-range c.args.date)))))
