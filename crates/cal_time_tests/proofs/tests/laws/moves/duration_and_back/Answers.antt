use Rattle.std.proofs.Common.{◌≡◌, ◌-ℤ◌, sym, subst, arith}
use Rattle.std.proofs.lemmas.Int.{ints}
use Rattle.cal_span.specs.SignedDuration.{IsDuration}
use Rattle.cal_time.proofs.RoundTrips.{value-one}
use Rattle.cal_time_tests.proofs.tests.laws.moves.duration_and_back.Goals as goal

pub returns-in-Some : goal.returns-in-Some
returns-in-Some c =
    let back : c.in-Some.sum -ℤ c.args.other ≡ c.args.duration = omega (arith, ints, c.in-Some.ensures.1) in
    value-one c.checked_sub.result _ _ c.args.duration c.checked_sub.ensures (subst IsDuration (sym back) c.whole_nanoseconds.ensures.range) back
