use Rattle.std.proofs.Common.{[], refl}
use Rattle.cal_iso.specs.ClockForm.{HasTail}
use Rattle.cal_iso.proofs.ClockReads.{put_seconds, two_of}
use Rattle.cal_iso.proofs.clock.scan_basic_seconds.Goals as goal

pub returns-in_ok-nanosecond-in-Some-clause-value : goal.returns-in_ok-nanosecond-in-Some-clause-value
returns-in_ok-nanosecond-in-Some-clause-value c =
    put_seconds (HasTail c.args.has_fraction) [] _ _ _ _ _ _ refl (two_of _ _ _ _ _ c.in-Some.ensures.value c.in_ok-ones-in-Some.ensures.value) c.in_ok-nanosecond-in-Some.ensures.value
