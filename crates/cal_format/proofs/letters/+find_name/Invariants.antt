use Rattle.cal_format.proofs.letters.+find_name.Given as goal

abbrev pub decreases-find_name : goal.decreases-find_name
decreases-find_name l = l.number
