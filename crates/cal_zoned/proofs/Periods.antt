-- Periods after local date-times.
use Rattle.std.proofs.Common.{◌≡◌, ◌∙◌, refl, ap, sym, subst, ℕ, ℤ, ◌+ℤ◌, ◌*ℤ◌, arith}
use Rattle.std.proofs.Math.IntN.{*ℤ_comm}
use Rattle.std.proofs.lemmas.Int.{ints}
use Rattle.std.specs.Prelude.{◌-ℤ◌, Option, Some, None, IfSome, SomeIff}
use Rattle.cal_time.specs.Date.{IsDate}
use Rattle.cal_datetime.specs.DateTime.{IsDateTime, date_at, time_at, with_date}
use Rattle.cal_time.specs.SignedDuration.{IsDuration}
use Rattle.cal_schedule.specs.Period.{IsDaysLater}
use Rattle.cal_zoned.specs.Period.{IsLaterBy}

pub later_of : (r w s e d : ℤ) → r ≡ w +ℤ e → s ≡ w → d ≡ e → d ≡ r -ℤ s
later_of r w s e d f g h = omega (arith, ints, f, g, h)

pub is_later : (z months days exact : ℤ) (n : ℕ) (w d : ℤ) (r : Option ℤ) → IsDate n → IsDaysLater (date_at z) months days n → w ≡ with_date z n → d ≡ exact
    → SomeIff r (IsDateTime (w +ℤ d)) (w +ℤ d) → IfSome r (λ (s : ℤ). IsDateTime s × IsLaterBy z months days exact s)
is_later z months days exact n w d None inside moved e f h = tt
is_later z months days exact n w d (Some s) inside moved e f h = (
  subst IsDateTime (sym h.1) h.0,
  record { day = n; in_range = inside; moved = moved; exact = h.1 ∙ ap (λ (x : ℤ). x +ℤ d) e ∙ ap (λ (x : ℤ). with_date z n +ℤ x) f },
)

-- n times a duration
pub exact_product : (n e d v : ℤ) → d ≡ e → v ≡ d *ℤ n → v ≡ n *ℤ e
exact_product n e d v is h = h ∙ ap (λ (x : ℤ). x *ℤ n) is ∙ *ℤ_comm e n

pub product_within : (z n e d r : ℤ) (k : ℕ) → d ≡ e → IsDate k → IsDateTime z → IsDateTime r → r ≡ with_date z k +ℤ n *ℤ e → IsDuration (d *ℤ n)
unfolding time_at
product_within z n e d r k is date inside there h =
    let same : d *ℤ n ≡ n *ℤ e = exact_product n e d (d *ℤ n) is refl in
    let low = there.not_before in
    let high = there.not_after in
    subst IsDuration (sym same) (record { at_least = omega (arith, ints, h, low, high, date); at_most = omega (arith, ints, h, low, high, date) })
