use Rattle.cal_holidays.proofs.ClosedForms.{closed_form}
use Rattle.cal_holidays.proofs.laws.closed_form.Goals as goal

pub returns : goal.returns
returns c = closed_form
