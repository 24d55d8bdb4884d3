use Rattle.cal_iso.proofs.ClockReads.{put_decimals}
use Rattle.cal_iso.proofs.fraction.scan_decimals.Goals as goal

pub returns-clause-value : goal.returns-clause-value
returns-clause-value c = put_decimals _ _ _ _ _ _ c.in_ok-first.ensures.value c.scan_more_decimals-nanosecond.ensures.value c.scan_zeros.ensures.value
