use Rattle.cal_holidays.proofs.ClosedForms.{closed_form_of_positive_year}
use Rattle.cal_holidays.proofs.laws.closed_form_of_positive_year.Goals as goal

pub returns : goal.returns
returns c = closed_form_of_positive_year
