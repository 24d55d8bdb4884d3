use Rattle.std.proofs.Common.{rules}
use Rattle.cal_zoned.specs.Resolved.{IsResolved}
use Rattle.cal_zoned.proofs.Shown.{shown_resolved}
use Rattle.cal_zoned.specs.Unchecked.{result_in}
use Rattle.cal_zoned.proofs.zoned_date_time.ZonedDateTime.from_local.Goals as goal

pub shown_in-requires : goal.shown_in-requires
shown_in-requires c =
    let zone = c.args.zone.now in
    let h : IsResolved c.args.policy zone c.args.reading (result_in zone c.resolved.result) = search rules in
    shown_resolved c.args.policy zone c.args.reading c.resolved.result h
