use Rattle.cal_holidays.proofs.Epacts.{full_moon-later}
use Rattle.cal_holidays.proofs.laws.moons_repeat.Goals as goal

pub returns : goal.returns
returns c = full_moon-later
