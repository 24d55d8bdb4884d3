use Rattle.std.proofs.Common.{◌≡◌, ℕ, zero, suc, ◌-◌, ◌%◌, ◌≤◌, ◌<◌, ◌+◌, ◌*◌, ◌^◌, Bool, pos, negsuc, neg_ℤ, FitsSigned, refl, subst, sym, ap, ◌∙◌, rules, arith}
use Rattle.std.specs.Int.{w64, cast_signed, cast_unsigned, int_wrapping_neg, from_bool}
use Rattle.std.proofs.lemmas.Int.{ints, to_z-of_z, of_z-to_z}
use Rattle.cal_span.specs.SignedDuration.{second, IsDuration, with_sign}
use Rattle.cal_span.proofs.signed_duration.SignedDuration.checked_from_magnitude.Goals as goal
use Rattle.cal_span.proofs.signed_duration.SignedDuration.checked_from_magnitude.Goals.{then-is_negative, else-is_negative}

-- The wrapped negation of the bits of a magnitude.
negated : (n : ℕ) → n ≤ 2 ^ 63 → int_wrapping_neg w64 (cast_signed w64 n) ≡ neg_ℤ (pos n)
negated zero h = refl
negated (suc n) h =
    let back : cast_unsigned w64 (cast_signed w64 (suc n)) ≡ suc n = of_z-to_z w64 (suc n) (omega arith) in
    let turned : (2 ^ 64 - suc n) % 2 ^ 64 ≡ 2 ^ 64 - suc n = omega arith in
    ap (λ m. cast_signed w64 ((2 ^ 64 - m) % 2 ^ 64)) back ∙ ap (cast_signed w64) turned ∙ to_z-of_z w64 (negsuc n) (omega (arith, ints))

pub returns : goal.returns
returns c =
    let fits : FitsSigned w64 c.cast_signed-seconds.result = search rules in
    let n = c.args.seconds * second + c.args.nanoseconds in
    let P : Bool → Type 0 = λ b. IsDuration (with_sign b n) × (c.if-is_negative.result ≡ with_sign b n) in
    elim c.if-is_negative.branch [
      | then-is_negative w ↦
          let size : c.args.seconds ≤ 2 ^ 63 = omega (arith, c.from.ensures, ap from_bool w.if-is_negative.true) in
          let opposite : w.wrapping_neg.result ≡ neg_ℤ (pos c.args.seconds) = simp to_z-of_z at w.wrapping_neg.ensures ∙ ap (int_wrapping_neg w64) c.cast_signed-seconds.ensures ∙ negated c.args.seconds size in
          subst P (sym w.if-is_negative.true) (record { at_least = omega (arith, ints); at_most = omega (arith, ints) }, omega (arith, ints))
      | else-is_negative w ↦
          let size : c.args.seconds < 2 ^ 63 = omega (arith, c.from.ensures, ap from_bool w.if-is_negative.false) in
          subst P (sym w.if-is_negative.false) (record { at_least = omega (arith, ints); at_most = omega (arith, ints) }, omega (arith, ints))
    ]
