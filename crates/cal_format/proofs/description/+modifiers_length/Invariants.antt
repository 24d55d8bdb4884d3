use Rattle.cal_format.proofs.description.+modifiers_length.Given as goal

abbrev pub decreases-modifiers_length : goal.decreases-modifiers_length
decreases-modifiers_length l = l.count
