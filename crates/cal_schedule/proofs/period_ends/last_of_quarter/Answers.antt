use Rattle.std.proofs.Common.{◌+◌, ◌-◌, ◌%◌, arith}
use Rattle.std.proofs.lemmas.Int.{ints}
use Rattle.cal_time.specs.Days.{month_at-range}
use Rattle.cal_time.specs.MonthCycle.{index-month_of_index}
use Rattle.cal_schedule.specs.MonthLaws.{last-greatest}
use Rattle.cal_schedule.proofs.Ends.{last-same}
use Rattle.cal_schedule.proofs.period_ends.last_of_quarter.Goals as goal

pub returns-clause-value : goal.returns-clause-value
returns-clause-value c =
    last-same _ _ _ _ _ (omega (arith, ints)) (rw c.at.ensures (omega (arith, month_at-range c.args.date, index-month_of_index (c.place-index.result - c.place-index.result % 3 + 2) (omega (arith, month_at-range c.args.date))))) c.last_in_month.ensures.value

pub returns-clause-min : goal.returns-clause-min
returns-clause-min c =
    last-greatest _ _ _ _ c.last_in_month.ensures.value (rw c.at.ensures (omega (arith, ints, month_at-range c.args.date, index-month_of_index (c.place-index.result - c.place-index.result % 3 + 2) (omega (arith, month_at-range c.args.date)))))
