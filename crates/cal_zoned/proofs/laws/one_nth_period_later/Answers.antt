use Rattle.std.proofs.Common.{◌≡◌, ◌*ℤ◌, ℕ, ℤ, subst}
use Rattle.std.specs.Prelude.{IfSome, Some}
use Rattle.std.proofs.lemmas.Int.{to_z-of_z}
use Rattle.cal_time.specs.Date.{IsDate}
use Rattle.cal_schedule.specs.Period.{days_of, months_of, IsDaysLater}
use Rattle.cal_zone.specs.Local.{IsLocalOf}
use Rattle.cal_zone.specs.Timeline.{Timeline}
use Rattle.cal_zone.specs.declared.local.Local.{Local}
use Rattle.cal_zoned.proofs.OneResult.{moved_by-one}
use Rattle.cal_zoned.proofs.laws.one_nth_period_later.Goals as goal

pub returns : goal.returns
returns c = λ p a b h k.
    let n = c.ranges.n in
    let one = subst (λ (z : Timeline). (r : ℤ) (x y : Local) → IsLocalOf z r x → IsLocalOf z r y → x ≡ y) c.zone.ensures c.one_local.ensures in
    let found = c.nth_date.result in
    let months = c.args.n *ℤ months_of c.args.period in
    let days = c.args.n *ℤ days_of c.args.period in
    let every = subst (λ (d : ℕ). (n : ℕ) → IsDate n → IsDaysLater d months days n → found ≡ Some n) c.date.ensures (simp to_z-of_z at c.nth_date.ensures.every) in
    let value = subst (λ (d : ℕ). IfSome found (λ (n : ℕ). IsDate n × IsDaysLater d months days n)) c.date.ensures (simp to_z-of_z at c.nth_date.ensures.value) in
    moved_by-one p c.args.moment.now months days (c.args.n *ℤ c.args.period.exact) a b one found every value h k
