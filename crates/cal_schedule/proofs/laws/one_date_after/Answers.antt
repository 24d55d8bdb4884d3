use Rattle.cal_schedule.proofs.Periods.{one_date_after}
use Rattle.cal_schedule.proofs.laws.one_date_after.Goals as goal

pub returns : goal.returns
returns c = λ a b h k. one_date_after c.args.date _ _ c.args.period.exact a b h k
