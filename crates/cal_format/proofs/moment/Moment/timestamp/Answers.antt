use Rattle.std.proofs.Common.{arith}
use Rattle.std.proofs.lemmas.Int.{ints}
use Rattle.cal_format.proofs.moment.Moment.timestamp.Goals as goal

pub returns-clause-value : goal.returns-clause-value
returns-clause-value c =
    omega (arith, ints, c.seconds_at.ensures.value, c.seconds_at.ensures.range, c.from-days.ensures, c.to_julian_day.ensures.value, c.seconds_of_day.ensures.value, c.seconds_of_day.ensures.range, c.whole_seconds.ensures.value)
