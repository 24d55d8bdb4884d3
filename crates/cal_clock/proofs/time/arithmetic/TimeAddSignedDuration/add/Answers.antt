use Rattle.std.proofs.Common.{pos, ◌+ℤ◌, sym}
use Rattle.cal_clock.specs.Time.{carry}
use Rattle.cal_span.specs.SignedDuration.{whole_days}
use Rattle.cal_clock.proofs.Days.{modulo_day-is}
use Rattle.cal_clock.proofs.time.arithmetic.TimeAddSignedDuration.add.Goals as goal

pub returns : goal.returns
returns c =
    let moved = c.adjusting_add.ensures in
    sym (modulo_day-is (pos c.args.self +ℤ c.args.duration) (whole_days c.args.duration +ℤ carry c.adjusting_add.result.0) c.adjusting_add.result.1 moved.value moved.range)
