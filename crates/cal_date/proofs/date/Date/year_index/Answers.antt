use Rattle.cal_date.proofs.Packed.{at_number, from_first-casts, year_index-is}
use Rattle.cal_date.proofs.date.Date.year_index.Goals as goal

pub overflow_cast-result : goal.overflow_cast-result
overflow_cast-result c =
    let at = at_number c.self.inside c.args.self c.self.invariant c.self.view_is in
    rw at.packed_is (from_first-casts _ _ at.year at.ordinal)

pub returns-clause-value : goal.returns-clause-value
returns-clause-value c =
    let at = at_number c.self.inside c.args.self c.self.invariant c.self.view_is in
    rw at.packed_is (year_index-is _ _ at.year at.ordinal)

pub returns-clause-in_range : goal.returns-clause-in_range
returns-clause-in_range c = (at_number c.self.inside c.args.self c.self.invariant c.self.view_is).in_range
