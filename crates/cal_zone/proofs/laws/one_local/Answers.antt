use Rattle.std.proofs.Common.{subst}
use Rattle.cal_zone.specs.Timeline.{InOrder}
use Rattle.cal_zone.proofs.OneLocal.{local-one}
use Rattle.cal_zone.proofs.laws.one_local.Goals as goal

pub returns : goal.returns
returns c = local-one c.args.zone.now (subst InOrder c.zone.view_is c.zone.invariant)
