use Rattle.cal_format.proofs.form.+scan_decimals.Given as goal

abbrev pub decreases-scan_decimals : goal.decreases-scan_decimals
decreases-scan_decimals l = l.more
