use Rattle.std.proofs.Common.{pos, ◌*ℤ◌, FitsSigned, int_div, int_rem, arith}
use Rattle.std.specs.Int.{w32, w64}
use Rattle.std.proofs.lemmas.Int.{ints, to_z-of_z, quot-rem, rem_below}
use Rattle.cal_span.proofs.signed_duration.SignedDuration.milliseconds.Goals as goal

pub invariant_of-result : goal.invariant_of-result
invariant_of-result c = omega (arith, ints)

pub returns : goal.returns
returns c =
    let n = c.ranges.milliseconds in
    let small = rem_below c.args.milliseconds (pos 1_000) (omega arith) in
    let whole : FitsSigned w64 (int_div c.args.milliseconds (pos 1_000)) = omega (arith, ints) in
    let wide : FitsSigned w64 (int_rem c.args.milliseconds (pos 1_000)) = omega (arith, ints) in
    let past : FitsSigned w32 (int_rem c.args.milliseconds (pos 1_000)) = omega (arith, ints) in
    let product : FitsSigned w32 (int_rem c.args.milliseconds (pos 1_000) *ℤ pos 1_000_000) = omega (arith, ints) in
    simp to_z-of_z (omega (arith, ints, quot-rem c.args.milliseconds (pos 1_000)))
