use Rattle.std.proofs.Common.{arith}
use Rattle.std.proofs.lemmas.Int.{ints}
use Rattle.guide.proofs.callers.round_trip_by.Goals as goal

pub returns : goal.returns
returns c = omega (arith, ints, c.in_ok-there.ensures.found, c.in_ok-back.ensures.found)
