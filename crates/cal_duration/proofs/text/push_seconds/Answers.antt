use Rattle.std.proofs.Common.{arith}
use Rattle.cal_duration.proofs.Lengths.{seconds_length}
use Rattle.cal_duration.proofs.text.push_seconds.Goals as goal

pub push_number-requires : goal.push_number-requires
push_number-requires c = omega (arith, seconds_length c.args.seconds c.requires.below_minute)

pub push_fraction-requires-clause-room : goal.push_fraction-requires-clause-room
push_fraction-requires-clause-room c = omega (arith, seconds_length c.args.seconds c.requires.below_minute)

pub push-requires : goal.push-requires
push-requires c = omega (arith, seconds_length c.args.seconds c.requires.below_minute)

pub returns-clause-max_length : goal.returns-clause-max_length
returns-clause-max_length c = omega (arith, seconds_length c.args.seconds c.requires.below_minute)
