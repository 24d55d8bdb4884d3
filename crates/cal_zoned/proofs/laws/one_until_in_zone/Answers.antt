use Rattle.std.proofs.Common.{◌≡◌, ℤ, subst}
use Rattle.cal_zone.specs.Local.{IsLocalOf}
use Rattle.cal_zone.specs.Timeline.{Timeline}
use Rattle.cal_zone.specs.declared.local.Local.{Local}
use Rattle.cal_zoned.proofs.UntilInZone.{until_in_zone-one}
use Rattle.cal_zoned.proofs.laws.one_until_in_zone.Goals as goal

pub returns : goal.returns
returns c = λ p unit t x y h k.
    let one = subst (λ (z : Timeline). (r : ℤ) (x y : Local) → IsLocalOf z r x → IsLocalOf z r y → x ≡ y) c.zone.ensures c.one_local.ensures in
    until_in_zone-one p unit c.args.from.now t x y one h k
