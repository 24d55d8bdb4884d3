use Rattle.cal_format.proofs.form.+scan_digits.Given as goal

abbrev pub decreases-scan_digits : goal.decreases-scan_digits
decreases-scan_digits l = l.count
