use Rattle.cal_format.proofs.variants.+scan_up_to.Given as goal

abbrev pub decreases-scan_up_to : goal.decreases-scan_up_to
decreases-scan_up_to l = l.most
