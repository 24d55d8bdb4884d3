use Rattle.std.proofs.Common.{◌≡◌, ◌≢◌, ◌+◌, ◌*◌, ◌/◌, ◌%◌, ◌<◌, ℕ, pos, unsigned_abs, of_z, ap, ◌∙◌, subst, sym, arith}
use Rattle.std.specs.Int.{w64}
use Rattle.std.proofs.lemmas.Int.{to_z-of_z}
use Rattle.cal_span.specs.SignedDuration.{second, with_sign}
use Rattle.cal_span.proofs.Quotient.{long-division, rest-below, cut-signs, size-above, quotient-along}
use Rattle.cal_span.proofs.signed_duration.SignedDuration.checked_quotient.Goals as goal

-- The second quotient in the code, by magnitudes.
past-below : (s n size v k : ℕ) → 0 < k → s ≡ v / second → n ≡ v % second → size ≡ k → (s % size * second + n) / size < second
past-below s n size v k above is_s is_n is_size =
    subst (λ x. x < second) (sym (λ t. (is_s t % is_size t * second + is_n t) / is_size t)) (rest-below v k above)

pub checked_from_magnitude-requires : goal.checked_from_magnitude-requires
checked_from_magnitude-requires c =
    let k = c.ranges.divisor in
    let apart : c.args.divisor ≢ pos 0 = λ e. c.if-divisor-eq0.false (ap (of_z w64) e) in
    let magnitude = c.unsigned_abs-seconds.ensures in
    past-below _ _ _ (unsigned_abs c.args.self) (unsigned_abs c.args.divisor) (size-above c.args.divisor apart) magnitude.seconds (c.from.ensures ∙ magnitude.nanoseconds) (simp to_z-of_z at c.unsigned_abs-size.ensures.value)

pub overflow_cast-rest-2 : goal.overflow_cast-rest-2
overflow_cast-rest-2 c = omega (arith, checked_from_magnitude-requires c)

pub returns : goal.returns
returns c =
    let k = c.ranges.divisor in
    let apart : c.args.divisor ≢ pos 0 = λ e. c.if-divisor-eq0.false (ap (of_z w64) e) in
    let size = simp to_z-of_z at c.unsigned_abs-size.ensures.value in
    let seconds = c.unsigned_abs-seconds.ensures.seconds in
    let past = c.from.ensures ∙ c.unsigned_abs-seconds.ensures.nanoseconds in
    let whole = (λ t. seconds t / size t * second + (seconds t % size t * second + past t) / size t) ∙ long-division (unsigned_abs c.args.self) (unsigned_abs c.args.divisor) (size-above c.args.divisor apart) in
    let signs = cut-signs c.args.self c.args.divisor c.is_negative.result c.is_negative.ensures apart in
    quotient-along c.checked_from_magnitude.result _ c.args.self c.args.divisor apart (ap (with_sign _) whole ∙ signs) (simp to_z-of_z at c.checked_from_magnitude.ensures)
