use Rattle.cal_text.proofs.fraction.+scan_positive_decimals.Given as goal

abbrev pub decreases-scan_positive_decimals : goal.decreases-scan_positive_decimals
decreases-scan_positive_decimals l = l.more
