use Rattle.std.proofs.Common.{length}
use Rattle.caldate_answers.proofs.scan.digit_start.+are_digits.Given as goal

abbrev pub decreases-are_digits : goal.decreases-are_digits
decreases-are_digits p = length p.readers.now
