use Rattle.cal_format.proofs.form.+scan_after_spaces.Given as goal

abbrev pub decreases-scan_after_spaces : goal.decreases-scan_after_spaces
decreases-scan_after_spaces l = l.more
