-- The quotient of two numbers, from their magnitudes and signs.
use Rattle.std.proofs.Common.{◌≡◌, ◌≢◌, ◌↔◌, ℕ, zero, suc, ◌+◌, ◌*◌, ◌/◌, ◌%◌, ◌<◌, Bool, true, false, not, ℤ, pos, negsuc, ◌<ℤ◌, unsigned_abs, IsTrue, Option, Some, None, SomeIff, refl, sym, ap, subst, ◌∙◌, arith}
use mathlib.Core.Bool.{beq}
use Rattle.std.specs.Int.Signed.{lt_z}
use Rattle.std.proofs.lemmas.Int.{ints}
use Rattle.std.proofs.lemmas.Nat.{div_below, mod_below, div-add-mod', div-mul-add}
use Rattle.cal_span.specs.SignedDuration.{second, IsDuration, HasQuotient, cut, with_sign}

-- Long division: first the whole seconds, then their remainder with the nanoseconds.
pub long-division : (n k : ℕ) → 0 < k → n / second / k * second + (n / second % k * second + n % second) / k ≡ n / k
long-division n k h =
    let s = n / second in
    let rest = s % k * second + n % second in
    let seconds = div-add-mod' s k in
    let parts = div-add-mod' rest k in
    let whole : (s / k * second + rest / k) * k + rest % k ≡ n = omega arith in
    sym (div-mul-add (s / k * second + rest / k) k (rest % k) (mod_below rest k h)) ∙ ap (λ x. x / k) whole

-- The second of these quotients is less than a second.
pub rest-below : (n k : ℕ) → 0 < k → (n / second % k * second + n % second) / k < second
rest-below n k h =
    let s = n / second in
    let rest = mod_below s k h in
    let below : s % k * second + n % second < second * k = omega arith in
    div_below (s % k * second + n % second) k second h below

-- The quotient is truncated toward zero. b says whether v is negative.
pub cut-signs : (v k : ℤ) (b : Bool) → IsTrue b ↔ (v <ℤ pos 0) → k ≢ pos 0 → with_sign (not (beq b (lt_z k (pos 0)))) (unsigned_abs v / unsigned_abs k) ≡ cut v k
cut-signs (pos n) (pos k) b is_below apart =
    let left : b ≡ false = grind (arith, ints, is_below) in
    let right : lt_z (pos k) (pos 0) ≡ false = grind (arith, ints) in
    λ t. with_sign (not (beq (left t) (right t))) (n / k)
cut-signs (pos n) (negsuc k) b is_below apart =
    let left : b ≡ false = grind (arith, ints, is_below) in
    λ t. with_sign (not (beq (left t) true)) (n / suc k)
cut-signs (negsuc n) (pos k) b is_below apart =
    let left : b ≡ true = grind (arith, ints, is_below) in
    let right : lt_z (pos k) (pos 0) ≡ false = grind (arith, ints) in
    λ t. with_sign (not (beq (left t) (right t))) (suc n / k)
cut-signs (negsuc n) (negsuc k) b is_below apart =
    let left : b ≡ true = grind (arith, ints, is_below) in
    λ t. with_sign (not (beq (left t) true)) (suc n / suc k)

pub size-above : (k : ℤ) → k ≢ pos 0 → 0 < unsigned_abs k
size-above (pos zero) apart = absurd (apart refl)
size-above (pos (suc n)) apart = omega arith
size-above (negsuc n) apart = omega arith

-- A result that is exact for n is exact for a quotient that equals n.
pub quotient-along : (r : Option ℤ) (n v k : ℤ) → k ≢ pos 0 → n ≡ cut v k → SomeIff r (IsDuration n) n → SomeIff r (HasQuotient v k) (cut v k)
quotient-along None n v k apart e h = λ q. h (subst IsDuration (sym e) q.quotient)
quotient-along (Some x) n v k apart e h = (record { divisor = apart; quotient = subst IsDuration e h.0 }, h.1 ∙ e)
