use Rattle.cal_c.proofs.Calendars.{one_of_text}
use Rattle.cal_c.proofs.schedule.laws.one_result_of_rules.Goals as goal

pub returns : goal.returns
returns c = one_of_text
