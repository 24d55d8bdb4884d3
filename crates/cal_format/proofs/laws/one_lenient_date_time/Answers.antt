use Rattle.cal_format.proofs.Outcomes.{same-result}
use Rattle.cal_format.proofs.laws.one_lenient_date_time.Goals as goal

pub returns : goal.returns
returns c y z first second one two = same-result _ _ _ (c.parse.ensures.every y first one) (c.parse.ensures.every z second two)
