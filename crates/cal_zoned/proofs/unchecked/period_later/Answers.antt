use Rattle.cal_schedule.specs.Period.{days_of, months_of}
use Rattle.cal_zoned.specs.Unchecked.{in_zone}
use Rattle.cal_zoned.proofs.Shown.{once_by}
use Rattle.cal_zoned.proofs.unchecked.period_later.Goals as goal

pub returns : goal.returns
returns c = λ order. once_by c.args.policy (in_zone c.args.zone.now c.args.moment) (months_of c.args.period) (days_of c.args.period) c.args.period.exact _ (c.nth_later.ensures order)
