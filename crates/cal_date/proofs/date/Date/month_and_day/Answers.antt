use Rattle.std.proofs.Common.{◌+◌, ◌∙◌, ap}
use Rattle.cal_units.specs.Month.{index}
use Rattle.cal_units.specs.MonthCycle.{index-month_of_index}
use Rattle.cal_date.proofs.date.Date.month_and_day.Goals as goal

pub returns-clause-month : goal.returns-clause-month
returns-clause-month c =
    ap (λ k. k + 1) (ap index c.at.ensures ∙ index-month_of_index _ c.index_and_day-index.ensures.index) ∙ c.index_and_day-index.ensures.month
