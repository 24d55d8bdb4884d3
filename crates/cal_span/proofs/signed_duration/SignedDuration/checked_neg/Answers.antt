use Rattle.std.proofs.Common.{◌≡◌, pos, neg_ℤ, ◌-ℤ◌, ℤ, Option, FitsSigned, SomeIff, sym, subst, rules, arith}
use Rattle.std.specs.Int.{w32, w64}
use Rattle.std.proofs.lemmas.Int.{ints, to_z-of_z}
use Rattle.cal_span.specs.SignedDuration.{IsDuration}
use Rattle.cal_span.proofs.Carry.{IsNormal-opposite, IsDuration-fields, opposite-fields, seconds-fit}
use Rattle.cal_span.proofs.signed_duration.SignedDuration.checked_neg.Goals as goal

pub returns-in_err-checked_neg : goal.returns-in_err-checked_neg
returns-in_err-checked_neg c =
    let a : FitsSigned w64 c.self.inside.seconds = search rules in
    let not_fits = simp to_z-of_z at c.in_err-checked_neg.ensures in
    let normal = IsNormal-opposite c.self.inside c.self.invariant in
    let same = opposite-fields c.self.inside c.args.self c.self.view_is in
    let P : Option ℤ → Type 0 = λ r. SomeIff r (IsDuration (neg_ℤ c.args.self)) (neg_ℤ c.args.self) in
    subst P (sym c.from_residual.ensures) (λ d. not_fits (seconds-fit _ _ normal.positive normal.negative (subst IsDuration (sym same) d)))

pub invariant_of-result : goal.invariant_of-result
invariant_of-result c =
    let a : FitsSigned w64 c.self.inside.seconds = search rules in
    let s : FitsSigned w64 c.in_ok-checked_neg.field-0 = search rules in
    let k = simp to_z-of_z at c.in_ok-checked_neg.ensures in
    let n : FitsSigned w32 c.self.inside.nanoseconds = search rules in
    let m : FitsSigned w32 (pos 0 -ℤ c.self.inside.nanoseconds) = omega (arith, ints, c.self.invariant.above, c.self.invariant.below) in
    let opposite : pos 0 -ℤ c.self.inside.nanoseconds ≡ neg_ℤ c.self.inside.nanoseconds = omega (arith, ints) in
    simp to_z-of_z (rw (k.1, opposite) (IsNormal-opposite c.self.inside c.self.invariant))

pub returns : goal.returns
returns c =
    let a : FitsSigned w64 c.self.inside.seconds = search rules in
    let s : FitsSigned w64 c.in_ok-checked_neg.field-0 = search rules in
    let k = simp to_z-of_z at c.in_ok-checked_neg.ensures in
    let n : FitsSigned w32 c.self.inside.nanoseconds = search rules in
    let m : FitsSigned w32 (pos 0 -ℤ c.self.inside.nanoseconds) = omega (arith, ints, c.self.invariant.above, c.self.invariant.below) in
    let opposite : pos 0 -ℤ c.self.inside.nanoseconds ≡ neg_ℤ c.self.inside.nanoseconds = omega (arith, ints) in
    let same = opposite-fields c.self.inside c.args.self c.self.view_is in
    (subst IsDuration same (IsDuration-fields _ (IsNormal-opposite c.self.inside c.self.invariant) k.0), simp to_z-of_z (rw (k.1, opposite) same))
