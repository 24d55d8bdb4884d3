use Rattle.cal_date.proofs.Packed.{at_number, mask_9-casts, packed_at-i32, next-i32, next-lowest_bits}
use Rattle.cal_date.proofs.date.Date.next_ordinal.Goals as goal

pub overflow_add-result : goal.overflow_add-result
overflow_add-result c =
    let at = at_number c.self.inside c.args.self c.self.invariant c.self.view_is in
    rw (packed_at-i32 _ _ at, at.packed_is) (next-i32 _ _ at.year at.ordinal)

pub overflow_cast-result : goal.overflow_cast-result
overflow_cast-result c = mask_9-casts _

pub returns-clause-value : goal.returns-clause-value
returns-clause-value c =
    let at = at_number c.self.inside c.args.self c.self.invariant c.self.view_is in
    rw (packed_at-i32 _ _ at, at.packed_is) (next-lowest_bits _ _ at.year at.ordinal)

pub returns-clause-in_range : goal.returns-clause-in_range
returns-clause-in_range c = (at_number c.self.inside c.args.self c.self.invariant c.self.view_is).in_range
