use Rattle.cal_schedule.proofs.Untils.{no_months}
use Rattle.cal_schedule.proofs.laws.no_months.Goals as goal

pub returns : goal.returns
returns c = c.checked_add_months.ensures.every c.args.date c.checked_add_months.ensures.in_range (no_months c.args.date)
