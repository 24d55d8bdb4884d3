use Rattle.std.proofs.Common.{◌≡◌, pos, ◌+ℤ◌, ◌-ℤ◌, ◌*ℤ◌, arith}
use Rattle.std.proofs.lemmas.Int.{ints}
use Rattle.cal_span.specs.SignedDuration.{day, whole_days}
use Rattle.cal_clock.specs.Time.{carry}
use Rattle.cal_clock.proofs.Days.{moved-back}
use Rattle.cal_clock.proofs.time.Time.adjusting_sub.Goals as goal

pub returns-clause-value : goal.returns-clause-value
returns-clause-value c =
    let step : pos c.args.self -ℤ c.subday_nanoseconds.result ≡ carry c.adjusted_time.result.0 *ℤ pos day +ℤ pos c.adjusted_time.result.1 = omega (arith, ints) in
    moved-back (pos c.args.self) c.args.duration (whole_days c.args.duration) c.subday_nanoseconds.result (carry c.adjusted_time.result.0) (pos c.adjusted_time.result.1) c.subday_nanoseconds.ensures.value step
