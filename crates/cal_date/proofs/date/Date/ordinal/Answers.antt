use Rattle.std.proofs.Common.{subst, sym, arith}
use Rattle.cal_date.specs.Date.{year_at, IsOrdinal}
use Rattle.cal_date.proofs.Dates.{ordinal-most}
use Rattle.cal_date.proofs.Packed.{at_number, mask_9-casts_16, lowest_bits}
use Rattle.cal_date.proofs.date.Date.ordinal.Goals as goal

pub overflow_cast-result : goal.overflow_cast-result
overflow_cast-result c = mask_9-casts_16 _

pub returns-clause-value : goal.returns-clause-value
returns-clause-value c =
    let at = at_number c.self.inside c.args.self c.self.invariant c.self.view_is in
    rw at.packed_is (lowest_bits _ _ at.year at.ordinal)

pub returns-clause-range : goal.returns-clause-range
returns-clause-range c =
    let at = at_number c.self.inside c.args.self c.self.invariant c.self.view_is in
    subst (IsOrdinal (year_at c.args.self)) (sym (returns-clause-value c)) at.ordinal

pub returns-clause-max : goal.returns-clause-max
returns-clause-max c = omega (arith, returns-clause-value c, ordinal-most c.args.self)

pub returns-clause-in_range : goal.returns-clause-in_range
returns-clause-in_range c = (at_number c.self.inside c.args.self c.self.invariant c.self.view_is).in_range
