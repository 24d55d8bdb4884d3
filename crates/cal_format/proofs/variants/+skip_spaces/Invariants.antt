use Rattle.cal_format.proofs.variants.+skip_spaces.Given as goal

abbrev pub decreases-skip_spaces : goal.decreases-skip_spaces
decreases-skip_spaces l = l.most
