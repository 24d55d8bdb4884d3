use Rattle.std.proofs.Common.{rules}
use Rattle.std.proofs.lemmas.Int.{to_z-of_z}
use Rattle.cal_zoned.specs.Period.{IsNthPeriodLater}
use Rattle.cal_zoned.proofs.Shown.{shown_by}
use Rattle.cal_zoned.specs.Unchecked.{in_zone, result_in}
use Rattle.cal_zoned.proofs.zoned_date_time.ZonedDateTime.nth_period.Goals as goal

pub shown_in-requires : goal.shown_in-requires
shown_in-requires c =
    let n = c.ranges.n in
    let zone = c.self.inside.zone.now in
    let m = c.self.inside.moment in
    let later = simp to_z-of_z at c.nth_later.ensures in
    let h : IsNthPeriodLater c.args.policy (in_zone zone m) c.args.period c.args.n (result_in zone c.nth_later.result) = search rules in
    shown_by c.args.policy zone m _ _ _ c.nth_later.result h
