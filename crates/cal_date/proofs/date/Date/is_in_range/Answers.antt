use Rattle.cal_date.proofs.Packed.{at_number}
use Rattle.cal_date.proofs.date.Date.is_in_range.Goals as goal

pub returns : goal.returns
returns c = (at_number c.self.inside c.args.self c.self.invariant c.self.view_is).in_range
