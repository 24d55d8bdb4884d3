use Rattle.cal_c.proofs.ZoneResults.{for_none, for_zone}
use Rattle.cal_c.proofs.zones.rounding.fots_zoned_round.Goals as goal

pub returns : goal.returns
returns c = for_zone _ _ _ _ c.in-Some.ensures c.rounded.ensures

pub returns-in-None : goal.returns-in-None
returns-in-None c = for_none _ _ _ c.in-None.ensures c.error.ensures
