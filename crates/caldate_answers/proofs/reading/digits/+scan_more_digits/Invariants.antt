use Rattle.caldate_answers.proofs.reading.digits.+scan_more_digits.Given as goal

abbrev pub decreases-scan_more_digits : goal.decreases-scan_more_digits
decreases-scan_more_digits l = l.most
