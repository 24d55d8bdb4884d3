use Rattle.cal_time.specs.SignedDuration.{IsDuration}
use Rattle.cal_rounding.proofs.OneResult.{duration-one}
use Rattle.cal_schedule_tests.proofs.tests.rounding.one_answer.round_duration.Goals as goal

pub returns : goal.returns
returns c =
    duration-one IsDuration c.args.mode c.args.unit c.args.duration _ _ c.round_duration.ensures.value c.round_duration.ensures.unit
    c.round_duration-2.ensures.value c.round_duration-2.ensures.unit
