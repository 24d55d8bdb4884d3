use Rattle.cal_date.proofs.Packed.{at_number, mask_10-casts, low_bits}
use Rattle.cal_date.proofs.date.Date.low_bits.Goals as goal

pub overflow_cast-result : goal.overflow_cast-result
overflow_cast-result c = mask_10-casts _

pub returns-clause-value : goal.returns-clause-value
returns-clause-value c =
    let at = at_number c.self.inside c.args.self c.self.invariant c.self.view_is in
    rw at.packed_is (low_bits _ _ at.year at.ordinal)

pub returns-clause-in_range : goal.returns-clause-in_range
returns-clause-in_range c = (at_number c.self.inside c.args.self c.self.invariant c.self.view_is).in_range
