use Rattle.cal_zoned.proofs.UnitEnds.{next_start-one}
use Rattle.cal_zoned.proofs.laws.one_next_start.Goals as goal

pub returns : goal.returns
returns c = λ unit s t h k. next_start-one unit c.args.moment.now s t h k
