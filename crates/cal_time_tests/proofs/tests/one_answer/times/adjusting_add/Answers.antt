use Rattle.std.proofs.Common.{◌+ℤ◌, arith}
use Rattle.std.proofs.lemmas.Int.{ints}
use Rattle.cal_span.specs.SignedDuration.{whole_days}
use Rattle.cal_clock.specs.Time.{carry}
use Rattle.cal_time.proofs.OneAnswer.{step-one}
use Rattle.cal_time_tests.proofs.tests.one_answer.times.adjusting_add.Goals as goal

pub returns : goal.returns
returns c =
    let r = c.adjusting_add.ensures in
    let s = c.adjusting_add-2.ensures in
    step-one (λ a. whole_days c.args.duration +ℤ carry a) (λ a b e. omega (arith, ints)) _ _ _ r.value r.range s.value s.range
