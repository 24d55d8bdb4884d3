use Rattle.std.proofs.Common.{◌∙◌, sym}
use Rattle.cal_date.proofs.Dates.{IsYear-i32}
use Rattle.cal_date.specs.Order.{calendar_date_at}
use Rattle.cal_date.proofs.Order.{in_order}
use Rattle.cal_date.proofs.Rising.{Rises-calendar_date}
use Rattle.cal_date.proofs.date.Date.to_calendar_date.Goals as goal

pub returns-clause-value : goal.returns-clause-value
returns-clause-value c =
    let year = sym (IsYear-i32 _ c.year.ensures.range ∙ c.year.ensures.value) in
    let month = sym c.month_and_day-month.ensures.month in
    let day = sym c.month_and_day-month.ensures.day in
    λ i. record { year = year i; month = month i; day = day i }

pub returns-clause-order : goal.returns-clause-order
returns-clause-order c = λ n _.
    rw (IsYear-i32 _ c.year.ensures.range, c.year.ensures.value, c.month_and_day-month.ensures.month, c.month_and_day-month.ensures.day)
    (in_order calendar_date_at Rises-calendar_date n c.args.self)
