use Rattle.cal_zoned.proofs.Firsts.{start-one}
use Rattle.cal_zoned.proofs.laws.one_start.Goals as goal

pub returns : goal.returns
returns c = start-one c.args.zone.now
