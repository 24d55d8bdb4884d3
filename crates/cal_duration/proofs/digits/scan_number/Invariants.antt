use Rattle.std.proofs.Common.{length}
use Rattle.cal_duration.proofs.DigitReads.{IsRead}
use Rattle.cal_duration.proofs.digits.scan_number.Given as goal

abbrev pub invariant-loop-digit : goal.invariant-loop-digit
invariant-loop-digit l = IsRead l.fn.scanner.rest.now l.scanner.rest.now l.number

abbrev pub decreases-loop-digit : goal.decreases-loop-digit
decreases-loop-digit l = length l.scanner.rest.now
