use Rattle.std.proofs.Common.{pos, FitsSigned, int_div, int_rem, arith}
use Rattle.std.specs.Int.{w32, w64}
use Rattle.std.proofs.lemmas.Int.{ints, to_z-of_z, quot-rem, rem_below}
use Rattle.cal_span.specs.SignedDuration.{second}
use Rattle.cal_span.proofs.signed_duration.SignedDuration.nanoseconds.Goals as goal

pub invariant_of-result : goal.invariant_of-result
invariant_of-result c = omega (arith, ints)

pub returns : goal.returns
returns c =
    let n = c.ranges.nanoseconds in
    let small = rem_below c.args.nanoseconds (pos second) (omega arith) in
    let whole : FitsSigned w64 (int_div c.args.nanoseconds (pos second)) = omega (arith, ints) in
    let wide : FitsSigned w64 (int_rem c.args.nanoseconds (pos second)) = omega (arith, ints) in
    let past : FitsSigned w32 (int_rem c.args.nanoseconds (pos second)) = omega (arith, ints) in
    simp to_z-of_z (quot-rem c.args.nanoseconds (pos second))
