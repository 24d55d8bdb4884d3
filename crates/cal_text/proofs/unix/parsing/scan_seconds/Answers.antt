use Rattle.cal_text.proofs.UnixShapes.{put_zero}
use Rattle.cal_text.proofs.unix.parsing.scan_seconds.Goals as goal

pub returns-in_ok-end-in-Some-clause-value : goal.returns-in_ok-end-in-Some-clause-value
returns-in_ok-end-in-Some-clause-value c = put_zero _ _ _ _ c.in-Some.ensures.value c.in_ok-nanosecond-in-Some.ensures.value c.in_ok-end-in-Some.ensures.value
