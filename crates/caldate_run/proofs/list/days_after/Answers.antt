use Rattle.std.proofs.Common.{arith, refl}
use Rattle.std.proofs.lemmas.Int.{ints}
use Rattle.caldate_run.proofs.list.days_after.Goals as goal

pub returns-in-Err-clause-day : goal.returns-in-Err-clause-day
returns-in-Err-clause-day c = λ n h.
    let julian = c.to_julian_day.ensures in
    c.in-Err.ensures.error.0 refl n h.0 (omega (arith, ints, julian.value, julian.in_range, c.min.ensures, h.0, h.1))
