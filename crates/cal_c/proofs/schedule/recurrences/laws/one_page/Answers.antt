use Rattle.cal_c.proofs.OnePage.{page-one}
use Rattle.cal_c.proofs.schedule.recurrences.laws.one_page.Goals as goal

pub returns : goal.returns
returns c = page-one
