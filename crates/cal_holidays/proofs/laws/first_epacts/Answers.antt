use Rattle.cal_holidays.proofs.Epacts.{first_epacts}
use Rattle.cal_holidays.proofs.laws.first_epacts.Goals as goal

pub returns : goal.returns
returns c = first_epacts
