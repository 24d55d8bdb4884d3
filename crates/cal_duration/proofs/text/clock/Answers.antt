use Rattle.std.proofs.Common.{◌/◌, ◌%◌, arith, ap, length}
use Rattle.cal_duration.proofs.Lengths.{hours_length, minutes_length, clock_appended}
use Rattle.cal_duration.proofs.text.clock.Goals as goal

pub push_part-requires : goal.push_part-requires
push_part-requires c = omega (arith, hours_length (c.args.seconds / 3600) (omega arith), ap length c.new-text.ensures)

pub push_part-requires-2 : goal.push_part-requires-2
push_part-requires-2 c = omega (arith, hours_length (c.args.seconds / 3600) (omega arith), minutes_length (c.args.seconds % 3600 / 60) (omega arith), ap length c.new-text.ensures)

pub push_seconds-requires-clause-room : goal.push_seconds-requires-clause-room
push_seconds-requires-clause-room c = omega (arith, hours_length (c.args.seconds / 3600) (omega arith), minutes_length (c.args.seconds % 3600 / 60) (omega arith), ap length c.new-text.ensures)

pub returns-clause-max_length : goal.returns-clause-max_length
returns-clause-max_length c = omega (arith, hours_length (c.args.seconds / 3600) (omega arith), minutes_length (c.args.seconds % 3600 / 60) (omega arith), ap length c.new-text.ensures)

pub returns-clause-value : goal.returns-clause-value
returns-clause-value c = clock_appended c.args.seconds c.args.nanoseconds _ _ _ _ c.requires.below_second c.new-text.ensures c.push_part.ensures.appended c.push_part-2.ensures.appended c.push_seconds.ensures.appended
