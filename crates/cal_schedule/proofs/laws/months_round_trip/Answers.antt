use Rattle.std.proofs.Common.{arith}
use Rattle.std.proofs.lemmas.Int.{ints}
use Rattle.cal_schedule.proofs.Untils.{back-again}
use Rattle.cal_schedule.proofs.laws.months_round_trip.Goals as goal

pub returns : goal.returns
returns c = back-again _ _ _ _ _ (omega (arith, ints, c.in_ok-negative.ensures)) c.requires c.in_ok-there.ensures.value.1 c.in_ok-back.ensures.value.1
