use Rattle.cal_date.proofs.Dates.{IsYear-i32}
use Rattle.cal_date.specs.Order.{ordinal_date_at}
use Rattle.cal_date.proofs.Order.{in_order}
use Rattle.cal_date.proofs.Rising.{Rises-ordinal_date}
use Rattle.cal_date.proofs.date.Date.to_ordinal_date.Goals as goal

pub returns-clause-order : goal.returns-clause-order
returns-clause-order c = λ n _.
    rw (IsYear-i32 _ c.year.ensures.range, c.year.ensures.value, c.ordinal.ensures.value) (in_order ordinal_date_at Rises-ordinal_date n c.args.self)
