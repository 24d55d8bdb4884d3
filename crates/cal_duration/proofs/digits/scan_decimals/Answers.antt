use Rattle.cal_duration.proofs.DigitReads.{decimals_read}
use Rattle.cal_duration.proofs.digits.scan_decimals.Goals as goal

pub returns-clause-value : goal.returns-clause-value
returns-clause-value c = decimals_read _ _ _ _ _ _ c.in_ok-first.ensures.value c.scan_more_decimals-nanoseconds.ensures.value c.in_ok-byte.ensures.value
