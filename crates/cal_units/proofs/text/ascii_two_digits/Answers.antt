use Rattle.cal_units.proofs.Pairs.{table, table-pair}
use Rattle.cal_units.proofs.text.ascii_two_digits.Goals as goal

pub returns : goal.returns
unfolding table
returns c = table-pair c.args.n c.requires
