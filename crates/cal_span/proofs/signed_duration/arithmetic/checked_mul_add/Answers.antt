use Rattle.std.proofs.Common.{◌+ℤ◌, ◌*ℤ◌, ℤ, Option, FitsSigned, SomeIff, refl, sym, subst, rules, arith}
use Rattle.std.specs.Int.{w64}
use Rattle.std.proofs.lemmas.Int.{ints, to_z-of_z}
use Rattle.cal_span.proofs.Product.{small-fits, first-fits}
use Rattle.cal_span.proofs.signed_duration.arithmetic.checked_mul_add.Goals as goal

pub overflow_mul-result : goal.overflow_mul-result
overflow_mul-result c =
    let s = c.ranges.seconds in
    let k = c.ranges.factor in
    simp to_z-of_z (small-fits c.args.seconds c.args.factor c.args.carry (omega (arith, ints)) (omega (arith, ints)) c.requires.small).0

pub overflow_add-result : goal.overflow_add-result
overflow_add-result c =
    let s = c.ranges.seconds in
    let k = c.ranges.factor in
    let n = c.ranges.carry in
    let fits = small-fits c.args.seconds c.args.factor c.args.carry (omega (arith, ints)) (omega (arith, ints)) c.requires.small in
    let product = fits.0 in
    simp to_z-of_z fits.1

pub returns-then-unsigned_abs : goal.returns-then-unsigned_abs
returns-then-unsigned_abs c =
    let s = c.ranges.seconds in
    let k = c.ranges.factor in
    let n = c.ranges.carry in
    let fits = small-fits c.args.seconds c.args.factor c.args.carry (omega (arith, ints)) (omega (arith, ints)) c.requires.small in
    let product = fits.0 in
    let sum = fits.1 in
    (sum, simp to_z-of_z refl)

pub returns-in_err-checked_mul : goal.returns-in_err-checked_mul
returns-in_err-checked_mul c =
    let s = c.ranges.seconds in
    let k = c.ranges.factor in
    let not_fits = simp to_z-of_z at c.in_err-checked_mul.ensures in
    let sum = c.args.seconds *ℤ c.args.factor +ℤ c.args.carry in
    let P : Option ℤ → Type 0 = λ r. SomeIff r (FitsSigned w64 sum) sum in
    subst P (sym c.from_residual.ensures) (λ d. not_fits (first-fits (c.args.seconds *ℤ c.args.factor) c.args.carry c.requires.positive c.requires.negative d))

pub returns : goal.returns
returns c =
    let s = c.ranges.seconds in
    let k = c.ranges.factor in
    let n = c.ranges.carry in
    let m : FitsSigned w64 c.in_ok-checked_mul.field-0 = search rules in
    let product = simp to_z-of_z at c.in_ok-checked_mul.ensures in
    let P : ℤ → Type 0 = λ m. SomeIff c.checked_add.result (FitsSigned w64 (m +ℤ c.args.carry)) (m +ℤ c.args.carry) in
    subst P product.1 (simp to_z-of_z at c.checked_add.ensures)
