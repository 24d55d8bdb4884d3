use Rattle.std.proofs.Common.{pos, ◌-ℤ◌, sym}
use Rattle.cal_clock.specs.Time.{carry}
use Rattle.cal_span.specs.SignedDuration.{whole_days}
use Rattle.cal_clock.proofs.Days.{modulo_day-is}
use Rattle.cal_clock.proofs.time.arithmetic.TimeSubSignedDuration.sub.Goals as goal

pub returns : goal.returns
returns c =
    let moved = c.adjusting_sub.ensures in
    sym (modulo_day-is (pos c.args.self -ℤ c.args.duration) (carry c.adjusting_sub.result.0 -ℤ whole_days c.args.duration) c.adjusting_sub.result.1 moved.value moved.range)
