use Rattle.std.proofs.Common.{rules}
use Rattle.cal_zoned.specs.Moves.{IsMovedTo}
use Rattle.cal_zoned.proofs.Shown.{shown_moved}
use Rattle.cal_zoned.specs.Unchecked.{in_zone, result_in}
use Rattle.cal_zoned.proofs.zoned_date_time.ZonedDateTime.moved_to.Goals as goal

pub shown_in-requires : goal.shown_in-requires
shown_in-requires c =
    let zone = c.self.inside.zone.now in
    let m = c.self.inside.moment in
    let h : IsMovedTo c.args.policy (in_zone zone m) c.args.date (result_in zone c.moved_to.result) = search rules in
    shown_moved c.args.policy zone m c.args.date c.moved_to.result c.self.invariant h
