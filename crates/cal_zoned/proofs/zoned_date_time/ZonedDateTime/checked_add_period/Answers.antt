use Rattle.std.proofs.Common.{rules}
use Rattle.cal_zoned.specs.Period.{IsPeriodLater}
use Rattle.cal_zoned.proofs.Shown.{shown_by}
use Rattle.cal_zoned.specs.Unchecked.{in_zone, result_in}
use Rattle.cal_zoned.proofs.zoned_date_time.ZonedDateTime.checked_add_period.Goals as goal

pub shown_in-requires : goal.shown_in-requires
shown_in-requires c =
    let zone = c.self.inside.zone.now in
    let m = c.self.inside.moment in
    let h : IsPeriodLater c.args.policy (in_zone zone m) c.args.period (result_in zone c.period_later.result) = search rules in
    shown_by c.args.policy zone m _ _ _ c.period_later.result h
