use Rattle.cal_duration.proofs.Ranges.{keeps_sign}
use Rattle.cal_duration.proofs.from_numbers.period_from_numbers.Goals as goal

pub unreachable-requires : goal.unreachable-requires
unreachable-requires c =
    c.in-None.ensures
    (keeps_sign c.args.numbers c.in-Some.years c.in-Some-signed_i32.months c.in-Some-signed_i32-2.weeks c.in-Some-signed_i32-3.days c.in-Ok.duration c.in-Some.ensures c.in-Some-signed_i32.ensures
    c.in-Some-signed_i32-2.ensures c.in-Some-signed_i32-3.ensures c.in-Ok.ensures.value.1)
