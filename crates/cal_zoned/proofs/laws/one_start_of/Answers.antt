use Rattle.cal_zoned.proofs.UnitEnds.{start_of-one}
use Rattle.cal_zoned.proofs.laws.one_start_of.Goals as goal

pub returns : goal.returns
returns c = λ unit a b h k. start_of-one unit c.args.moment.now a b h k
