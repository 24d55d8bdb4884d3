use Rattle.cal_date.proofs.Packed.{at_number, from_first-casts, ordinal_index-is, ordinal_index-most}
use Rattle.cal_date.proofs.date.Date.ordinal_index.Goals as goal

pub overflow_cast-result : goal.overflow_cast-result
overflow_cast-result c =
    let at = at_number c.self.inside c.args.self c.self.invariant c.self.view_is in
    rw at.packed_is (from_first-casts _ _ at.year at.ordinal)

pub returns-clause-value : goal.returns-clause-value
returns-clause-value c =
    let at = at_number c.self.inside c.args.self c.self.invariant c.self.view_is in
    rw at.packed_is (ordinal_index-is _ _ at.year at.ordinal)

pub returns-clause-max : goal.returns-clause-max
returns-clause-max c =
    let at = at_number c.self.inside c.args.self c.self.invariant c.self.view_is in
    rw at.packed_is (ordinal_index-most _ _ at.year at.ordinal)

pub returns-clause-in_range : goal.returns-clause-in_range
returns-clause-in_range c = (at_number c.self.inside c.args.self c.self.invariant c.self.view_is).in_range
