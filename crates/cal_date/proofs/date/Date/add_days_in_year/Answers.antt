use Rattle.std.proofs.Common.{w32}
use Rattle.std.proofs.lemmas.Int.{to_z-of_z}
use Rattle.cal_date.proofs.Packed.{at_number, packed_at-i32, moved}
use Rattle.cal_date.proofs.date.Date.add_days_in_year.Goals as goal

pub overflow_add-result : goal.overflow_add-result
overflow_add-result c =
    let at = at_number c.self.inside c.args.self c.self.invariant c.self.view_is in
    rw (packed_at-i32 _ _ at, to_z-of_z w32 c.args.days c.ranges.days) (moved _ _ _ at c.requires.not_before c.requires.not_after).fits

pub invariant_of-result : goal.invariant_of-result
invariant_of-result c =
    let at = at_number c.self.inside c.args.self c.self.invariant c.self.view_is in
    let move = moved _ _ _ at c.requires.not_before c.requires.not_after in
    rw (packed_at-i32 _ _ at, to_z-of_z w32 c.args.days c.ranges.days, to_z-of_z w32 _ move.fits) move.is_packed

pub returns : goal.returns
returns c =
    let at = at_number c.self.inside c.args.self c.self.invariant c.self.view_is in
    let move = moved _ _ _ at c.requires.not_before c.requires.not_after in
    rw (packed_at-i32 _ _ at, to_z-of_z w32 c.args.days c.ranges.days, to_z-of_z w32 _ move.fits) move.number_is
