use Rattle.std.proofs.Common.{◌≡◌, ℤ, subst}
use Rattle.cal_zone.specs.Local.{IsLocalOf}
use Rattle.cal_zone.specs.Timeline.{Timeline}
use Rattle.cal_zone.specs.declared.local.Local.{Local}
use Rattle.cal_zoned.proofs.UnitEnds.{moved_to-one}
use Rattle.cal_zoned.proofs.laws.one_moved.Goals as goal

pub returns : goal.returns
returns c = λ p n a b h k.
    let one = subst (λ (z : Timeline). (r : ℤ) (x y : Local) → IsLocalOf z r x → IsLocalOf z r y → x ≡ y) c.zone.ensures c.one_local.ensures in
    moved_to-one p c.args.moment.now n a b one h k
