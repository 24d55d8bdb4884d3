use Rattle.cal_units.proofs.text.ShortText.+push_u128.Given as goal

abbrev pub decreases-push_u128 : goal.decreases-push_u128
decreases-push_u128 l = l.number
