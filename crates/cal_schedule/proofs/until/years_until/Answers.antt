use Rattle.std.proofs.Common.{arith}
use Rattle.std.proofs.lemmas.Int.{ints}
use Rattle.cal_schedule.proofs.Untils.{years-on, years-back}
use Rattle.cal_schedule.proofs.until.years_until.Goals as goal

pub returns-clause-value_forward : goal.returns-clause-value_forward
returns-clause-value_forward c h =
    let months = c.months_until.ensures in
    let parts = c.years_and_months-years.ensures in
    let signs = parts.forward (omega (arith, ints, months.min h)) in
    years-on _ _ _ _ _ months.in_range.0 (months.value_forward h) (omega (arith, ints, parts.value)) (omega (arith, ints, signs.0)) signs.1 signs.2

pub returns-clause-value_backward : goal.returns-clause-value_backward
returns-clause-value_backward c h =
    let months = c.months_until.ensures in
    let parts = c.years_and_months-years.ensures in
    let signs = parts.backward (omega (arith, ints, months.max h)) in
    years-back _ _ _ _ _ months.in_range.0 (months.value_backward h) (omega (arith, ints, parts.value)) (omega (arith, ints, signs.0)) signs.1 signs.2
