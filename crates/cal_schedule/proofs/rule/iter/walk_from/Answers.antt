use Rattle.cal_schedule.proofs.Rules.{walk_is}
use Rattle.cal_schedule.proofs.rule.iter.walk_from.Goals as goal

pub returns : goal.returns
returns c =
    walk_is c.args.rule c.args.date c.first_from.result c.next_from-front.result c.first_from.ensures c.next_from-front.ensures
