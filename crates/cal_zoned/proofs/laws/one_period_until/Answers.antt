use Rattle.cal_zoned.proofs.PeriodsUntil.{period_until-one}
use Rattle.cal_zoned.proofs.laws.one_period_until.Goals as goal

pub returns : goal.returns
returns c = λ unit p q h k. period_until-one unit c.args.from c.args.to p q h k
