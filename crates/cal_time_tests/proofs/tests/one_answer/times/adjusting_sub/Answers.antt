use Rattle.std.proofs.Common.{◌-ℤ◌, arith}
use Rattle.std.proofs.lemmas.Int.{ints}
use Rattle.cal_span.specs.SignedDuration.{whole_days}
use Rattle.cal_clock.specs.Time.{carry}
use Rattle.cal_time.proofs.OneAnswer.{step-one}
use Rattle.cal_time_tests.proofs.tests.one_answer.times.adjusting_sub.Goals as goal

pub returns : goal.returns
returns c =
    let r = c.adjusting_sub.ensures in
    let s = c.adjusting_sub-2.ensures in
    step-one (λ a. carry a -ℤ whole_days c.args.duration) (λ a b e. omega (arith, ints)) _ _ _ r.value r.range s.value s.range
