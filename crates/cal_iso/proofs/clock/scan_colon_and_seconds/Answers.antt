use Rattle.std.proofs.Common.{[], ◌∷◌}
use Rattle.cal_iso.specs.ClockForm.{HasTail}
use Rattle.cal_iso.proofs.ClockReads.{put_seconds}
use Rattle.cal_iso.proofs.clock.scan_colon_and_seconds.Goals as goal

pub returns-in_ok-nanosecond-in-Some-clause-value : goal.returns-in_ok-nanosecond-in-Some-clause-value
returns-in_ok-nanosecond-in-Some-clause-value c =
    put_seconds (HasTail c.args.has_fraction) (58 ∷ []) _ _ _ _ _ _ c.in-Some.ensures.value c.in_ok-second-in-Some.ensures.value c.in_ok-nanosecond-in-Some.ensures.value
