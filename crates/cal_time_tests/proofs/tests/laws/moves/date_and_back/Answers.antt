use Rattle.std.proofs.Common.{◌≡◌, pos, ◌-ℤ◌, arith}
use Rattle.std.proofs.lemmas.Int.{ints}
use Rattle.cal_span.specs.SignedDuration.{whole_days}
use Rattle.cal_time.proofs.RoundTrips.{date-one}
use Rattle.cal_time_tests.proofs.tests.laws.moves.date_and_back.Goals as goal

pub returns-in-Some : goal.returns-in-Some
returns-in-Some c =
    let back : pos c.in-Some.moved -ℤ whole_days c.args.duration ≡ pos c.args.date = omega (arith, ints, c.in-Some.ensures.found) in
    date-one c.checked_sub.result _ c.args.date c.checked_sub.ensures.value back c.checked_add.ensures.in_range
