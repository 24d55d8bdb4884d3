use Rattle.std.proofs.Common.{arith}
use Rattle.std.proofs.lemmas.Int.{ints}
use Rattle.cal_schedule.proofs.Untils.{months-on, months-back}
use Rattle.cal_schedule.proofs.until.months_until.Goals as goal

pub returns-then-le-clause-min : goal.returns-then-le-clause-min
returns-then-le-clause-min c h =
    let on = c.months_forward.ensures in
    omega (arith, ints, months-on _ _ _ on.in_range.0 h on.value)

pub returns-else-le-clause-max : goal.returns-else-le-clause-max
returns-else-le-clause-max c h =
    let back = c.months_backward.ensures in
    omega (arith, ints, months-back _ _ _ back.in_range.0 h back.value)
