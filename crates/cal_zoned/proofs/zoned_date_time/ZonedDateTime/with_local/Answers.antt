use Rattle.std.proofs.Common.{rules}
use Rattle.cal_zoned.specs.Resolved.{IsKept}
use Rattle.cal_zoned.proofs.Shown.{shown_kept}
use Rattle.cal_zoned.specs.Unchecked.{in_zone, result_in}
use Rattle.cal_zoned.proofs.zoned_date_time.ZonedDateTime.with_local.Goals as goal

pub shown_in-requires : goal.shown_in-requires
shown_in-requires c =
    let zone = c.self.inside.zone.now in
    let m = c.self.inside.moment in
    let h : IsKept c.args.policy (in_zone zone m) c.args.reading (result_in zone c.kept.result) = search rules in
    shown_kept c.args.policy zone m c.args.reading c.kept.result h
