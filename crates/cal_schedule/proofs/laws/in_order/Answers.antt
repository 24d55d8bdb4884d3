use Rattle.cal_schedule.proofs.Untils.{order-kept}
use Rattle.cal_schedule.proofs.laws.in_order.Goals as goal

pub returns : goal.returns
returns c =
    let one = c.in_ok-first.ensures in
    let other = c.in_ok-second.ensures in
    order-kept _ _ _ _ _ one.in_range one.value.0 c.requires one.value.1 other.value.1
