use Rattle.cal_format.proofs.Outcomes.{same-result}
use Rattle.cal_format.proofs.laws.one_date.Goals as goal

pub returns : goal.returns
returns c m n first second held other e f = same-result _ _ _ (c.parse.ensures.every m first held e) (c.parse.ensures.every n second other f)
