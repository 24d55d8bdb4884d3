use Rattle.std.proofs.Common.{◌∙◌}
use Rattle.cal_schedule.specs.WorkdaysLaws.{adjusted_date-kept}
use Rattle.cal_schedule.proofs.laws.workdays.stays.Goals as goal

pub returns : goal.returns
returns c = c.adjust.ensures.value ∙ adjusted_date-kept c.args.workdays.now c.args.convention c.args.date c.adjust.ensures.in_range c.requires
