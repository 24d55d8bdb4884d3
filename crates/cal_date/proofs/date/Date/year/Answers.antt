use Rattle.std.proofs.Common.{subst, sym}
use Rattle.cal_date.specs.Date.{IsYear}
use Rattle.cal_date.proofs.Packed.{at_number, shifted}
use Rattle.cal_date.proofs.date.Date.year.Goals as goal

pub returns-clause-value : goal.returns-clause-value
returns-clause-value c =
    let at = at_number c.self.inside c.args.self c.self.invariant c.self.view_is in
    rw at.packed_is (shifted _ _ at.year at.ordinal)

pub returns-clause-range : goal.returns-clause-range
returns-clause-range c =
    let at = at_number c.self.inside c.args.self c.self.invariant c.self.view_is in
    subst IsYear (sym (returns-clause-value c)) at.year

pub returns-clause-in_range : goal.returns-clause-in_range
returns-clause-in_range c = (at_number c.self.inside c.args.self c.self.invariant c.self.view_is).in_range
