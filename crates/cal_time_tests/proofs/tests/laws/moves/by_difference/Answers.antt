use Rattle.std.proofs.Common.{◌≡◌, pos, ◌+ℤ◌, ◌-ℤ◌, ap, ◌∙◌, arith}
use Rattle.std.proofs.lemmas.Int.{ints}
use Rattle.cal_span.specs.SignedDuration.{whole_days}
use Rattle.cal_time.proofs.RoundTrips.{date-one, whole_days-of_days}
use Rattle.cal_time_tests.proofs.tests.laws.moves.by_difference.Goals as goal

pub returns : goal.returns
returns c =
    let between = pos c.args.to -ℤ pos c.args.from in
    let days : whole_days c.sub.result ≡ between = ap whole_days c.sub.ensures.0 ∙ whole_days-of_days between in
    let there : pos c.args.from +ℤ whole_days c.sub.result ≡ pos c.args.to = omega (arith, ints, days) in
    date-one c.checked_add.result _ c.args.to c.checked_add.ensures.value there c.sub.ensures.1
