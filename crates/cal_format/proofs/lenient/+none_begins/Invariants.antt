use Rattle.cal_format.proofs.lenient.+none_begins.Given as goal

abbrev pub decreases-none_begins : goal.decreases-none_begins
decreases-none_begins l = l.count
