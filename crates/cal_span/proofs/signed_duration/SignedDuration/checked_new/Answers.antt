use Rattle.std.proofs.Common.{◌≡◌, pos, ◌+ℤ◌, ◌-ℤ◌, ◌*ℤ◌, ℤ, Option, FitsSigned, SomeIff, sym, subst, rules, arith}
use Rattle.std.specs.Int.{w32, w64}
use Rattle.std.proofs.lemmas.Int.{ints, to_z-of_z}
use Rattle.cal_span.specs.SignedDuration.{second, IsDuration}
use Rattle.cal_span.proofs.Carry.{carry-whole, IsDuration-carried, seconds-fit}
use Rattle.cal_span.proofs.signed_duration.SignedDuration.checked_new.Goals as goal

pub returns-in_err-checked_add : goal.returns-in_err-checked_add
returns-in_err-checked_add c =
    let s = c.ranges.seconds in
    let n = c.ranges.nanoseconds in
    let r : FitsSigned w32 c.carry_from_nanoseconds-carry.result = search rules in
    let carry = simp to_z-of_z at c.carry_from_nanoseconds-carry.ensures in
    let fits : FitsSigned w64 c.from.result = search rules in
    let wide : c.from.result ≡ c.carry_from_nanoseconds-carry.result = omega (arith, ints, c.from.ensures) in
    let not_fits = rw wide at (simp to_z-of_z at c.in_err-checked_add.ensures) in
    let whole = carry-whole c.args.seconds c.args.nanoseconds c.carry_from_nanoseconds-carry.result in
    let P : Option ℤ → Type 0 = λ r. SomeIff r (IsDuration (c.args.seconds *ℤ pos second +ℤ c.args.nanoseconds)) (c.args.seconds *ℤ pos second +ℤ c.args.nanoseconds) in
    subst P (sym c.from_residual.ensures) (λ d. not_fits (seconds-fit _ _ carry.normal.positive carry.normal.negative (subst IsDuration (sym whole) d)))

pub overflow_mul-result : goal.overflow_mul-result
overflow_mul-result c =
    let s = c.ranges.seconds in
    let n = c.ranges.nanoseconds in
    let r : FitsSigned w32 c.carry_from_nanoseconds-carry.result = search rules in
    let carry = simp to_z-of_z at c.carry_from_nanoseconds-carry.ensures in
    simp to_z-of_z (omega (arith, ints, carry.at_least, carry.at_most))

pub overflow_sub-result : goal.overflow_sub-result
overflow_sub-result c =
    let s = c.ranges.seconds in
    let n = c.ranges.nanoseconds in
    let r : FitsSigned w32 c.carry_from_nanoseconds-carry.result = search rules in
    let carry = simp to_z-of_z at c.carry_from_nanoseconds-carry.ensures in
    let product : FitsSigned w32 (c.carry_from_nanoseconds-carry.result *ℤ pos second) = omega (arith, ints, carry.at_least, carry.at_most) in
    simp to_z-of_z (omega (arith, ints, carry.normal.above, carry.normal.below))

pub invariant_of-result : goal.invariant_of-result
invariant_of-result c =
    let s = c.ranges.seconds in
    let n = c.ranges.nanoseconds in
    let r : FitsSigned w32 c.carry_from_nanoseconds-carry.result = search rules in
    let carry = simp to_z-of_z at c.carry_from_nanoseconds-carry.ensures in
    let fits : FitsSigned w64 c.in_ok-checked_add.field-0 = search rules in
    let product : FitsSigned w32 (c.carry_from_nanoseconds-carry.result *ℤ pos second) = omega (arith, ints, carry.at_least, carry.at_most) in
    let past : FitsSigned w32 (c.args.nanoseconds -ℤ c.carry_from_nanoseconds-carry.result *ℤ pos second) = omega (arith, ints, carry.normal.above, carry.normal.below) in
    let sum : c.in_ok-checked_add.field-0 ≡ c.args.seconds +ℤ c.carry_from_nanoseconds-carry.result = omega (arith, ints, c.in_ok-checked_add.ensures) in
    simp to_z-of_z (rw sum carry.normal)

pub returns : goal.returns
returns c =
    let s = c.ranges.seconds in
    let n = c.ranges.nanoseconds in
    let r : FitsSigned w32 c.carry_from_nanoseconds-carry.result = search rules in
    let carry = simp to_z-of_z at c.carry_from_nanoseconds-carry.ensures in
    let fits : FitsSigned w64 c.in_ok-checked_add.field-0 = search rules in
    let sum : c.in_ok-checked_add.field-0 ≡ c.args.seconds +ℤ c.carry_from_nanoseconds-carry.result = omega (arith, ints, c.in_ok-checked_add.ensures) in
    let whole = carry-whole c.args.seconds c.args.nanoseconds c.carry_from_nanoseconds-carry.result in (
      IsDuration-carried c.args.seconds c.args.nanoseconds c.carry_from_nanoseconds-carry.result carry (subst (FitsSigned w64) sum fits),
      omega (arith, ints, carry.at_least, carry.at_most),
    )
