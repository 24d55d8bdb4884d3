use Rattle.cal_c.proofs.Calendars.{one_number}
use Rattle.cal_c.proofs.schedule.laws.one_number_of_holidays.Goals as goal

pub returns : goal.returns
returns c = one_number
