use Rattle.cal_format.proofs.Outcomes.{same-result}
use Rattle.cal_format.proofs.laws.one_lenient_date.Goals as goal

pub returns : goal.returns
returns c m n first second one two = same-result _ _ _ (c.parse.ensures.every m first one) (c.parse.ensures.every n second two)
