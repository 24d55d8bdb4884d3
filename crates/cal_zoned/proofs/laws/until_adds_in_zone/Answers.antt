use Rattle.std.proofs.Common.{◌≡◌, ℤ, subst}
use Rattle.cal_zone.specs.Local.{IsLocalOf}
use Rattle.cal_zone.specs.Timeline.{Timeline}
use Rattle.cal_zone.specs.declared.local.Local.{Local}
use Rattle.cal_zoned.specs.Zoned.{instant_in}
use Rattle.cal_zoned.proofs.UntilInZone.{adds_in_zone}
use Rattle.cal_zoned.proofs.laws.until_adds_in_zone.Goals as goal

pub returns : goal.returns
returns c =
    let one = subst (λ (z : Timeline). (r : ℤ) (x y : Local) → IsLocalOf z r x → IsLocalOf z r y → x ≡ y) c.zone.ensures c.one_local.ensures in
    let until = c.in_ok-period.ensures in
    adds_in_zone c.args.policy c.args.unit c.args.from.now (instant_in c.args.to.now) c.in_ok-period.period c.checked_add_period.result one until.some until.value c.checked_add_period.ensures
