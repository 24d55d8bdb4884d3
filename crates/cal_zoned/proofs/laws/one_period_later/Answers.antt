use Rattle.std.proofs.Common.{◌≡◌, ℕ, ℤ, subst}
use Rattle.std.specs.Prelude.{IfSome, Some}
use Rattle.cal_time.specs.Date.{IsDate}
use Rattle.cal_schedule.specs.Period.{days_of, months_of, IsDaysLater}
use Rattle.cal_zone.specs.Local.{IsLocalOf}
use Rattle.cal_zone.specs.Timeline.{Timeline}
use Rattle.cal_zone.specs.declared.local.Local.{Local}
use Rattle.cal_zoned.proofs.OneResult.{moved_by-one}
use Rattle.cal_zoned.proofs.laws.one_period_later.Goals as goal

pub returns : goal.returns
returns c = λ p a b h k.
    let one = subst (λ (z : Timeline). (r : ℤ) (x y : Local) → IsLocalOf z r x → IsLocalOf z r y → x ≡ y) c.zone.ensures c.one_local.ensures in
    let found = c.date_after.result in
    let every = subst (λ (d : ℕ). (n : ℕ) → IsDate n → IsDaysLater d (months_of c.args.period) (days_of c.args.period) n → found ≡ Some n) c.date.ensures c.date_after.ensures.every in
    let value = subst (λ (d : ℕ). IfSome found (λ (n : ℕ). IsDate n × IsDaysLater d (months_of c.args.period) (days_of c.args.period) n)) c.date.ensures c.date_after.ensures.value in
    moved_by-one p c.args.moment.now (months_of c.args.period) (days_of c.args.period) c.args.period.exact a b one found every value h k
