use Rattle.std.proofs.Common.{◌≡◌, ℤ, subst}
use Rattle.cal_zone.specs.Local.{IsLocalOf}
use Rattle.cal_zone.specs.Timeline.{Timeline}
use Rattle.cal_zone.specs.declared.local.Local.{Local}
use Rattle.cal_zoned.proofs.OneResult.{kept-one}
use Rattle.cal_zoned.proofs.laws.one_kept.Goals as goal

pub returns : goal.returns
returns c = λ p reading a b h k.
    let one = subst (λ (z : Timeline). (r : ℤ) (x y : Local) → IsLocalOf z r x → IsLocalOf z r y → x ≡ y) c.zone.ensures c.one_local.ensures in
    kept-one p c.args.moment.now reading a b one h k
