use Rattle.cal_iso.specs.ClockForm.{HasTail}
use Rattle.cal_iso.proofs.ClockReads.{put_basic, put_colon, two_of}
use Rattle.cal_iso.proofs.clock.scan_after_hour.Goals as goal

pub returns-in-Some-clause-value : goal.returns-in-Some-clause-value
returns-in-Some-clause-value c = put_colon (HasTail c.args.has_fraction) _ _ _ _ _ _ _ c.in-Some.ensures.value c.in_ok-minute.ensures.value c.in_ok-second.ensures.value

pub returns-in_ok-second-in-Some-digit-clause-value : goal.returns-in_ok-second-in-Some-digit-clause-value
returns-in_ok-second-in-Some-digit-clause-value c =
    put_basic (HasTail c.args.has_fraction) _ _ _ _ _ _ _ c.in_default.ensures.unchanged (two_of _ _ _ _ _ c.in-Some-digit.ensures.value c.in_ok-ones-in-Some-digit.ensures.value) c.in_ok-second-in-Some-digit.ensures.value
