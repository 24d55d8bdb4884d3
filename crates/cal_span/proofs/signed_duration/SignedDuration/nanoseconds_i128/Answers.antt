use Rattle.std.proofs.Common.{ℤ, pos, FitsSigned, int_div, int_rem, arith}
use Rattle.std.specs.Int.{w32, w64, w128}
use Rattle.std.proofs.lemmas.Int.{ints, to_z-of_z, quot-rem, rem_below}
use Rattle.cal_span.specs.SignedDuration.{second, IsDuration}
use Rattle.cal_span.specs.FieldsLaws.{IsNormal-fields_of}
use Rattle.cal_span.proofs.signed_duration.SignedDuration.nanoseconds_i128.Goals as goal

-- The seconds of a duration and the nanoseconds past them fit in each of their types.
record IsSplit (n : ℤ) : Type 0 where
  whole : FitsSigned w64 (int_div n (pos second))
  wide : FitsSigned w128 (int_div n (pos second))
  past : FitsSigned w32 (int_rem n (pos second))
  wide_past : FitsSigned w128 (int_rem n (pos second))

split : (n : ℤ) → IsDuration n → IsSplit n
split n d =
    let small = rem_below n (pos second) (omega arith) in
    let whole : FitsSigned w64 (int_div n (pos second)) = omega (arith, ints, d.at_least, d.at_most, quot-rem n (pos second)) in
    record { whole = whole; wide = omega (arith, ints, whole); past = omega (arith, ints); wide_past = omega (arith, ints) }

pub overflow_cast-result-2 : goal.overflow_cast-result-2
overflow_cast-result-2 c =
    let n = c.ranges.nanoseconds in
    let is = split c.args.nanoseconds c.requires in
    let whole = is.whole in
    let wide = is.wide in
    let past = is.past in
    let wide_past = is.wide_past in
    simp to_z-of_z whole

pub overflow_cast-result-4 : goal.overflow_cast-result-4
overflow_cast-result-4 c =
    let n = c.ranges.nanoseconds in
    let is = split c.args.nanoseconds c.requires in
    let whole = is.whole in
    let wide = is.wide in
    let past = is.past in
    let wide_past = is.wide_past in
    simp to_z-of_z past

pub invariant_of-result : goal.invariant_of-result
invariant_of-result c =
    let n = c.ranges.nanoseconds in
    let is = split c.args.nanoseconds c.requires in
    let whole = is.whole in
    let wide = is.wide in
    let past = is.past in
    let wide_past = is.wide_past in
    simp to_z-of_z (IsNormal-fields_of c.args.nanoseconds)

pub returns : goal.returns
returns c =
    let n = c.ranges.nanoseconds in
    let is = split c.args.nanoseconds c.requires in
    let whole = is.whole in
    let wide = is.wide in
    let past = is.past in
    let wide_past = is.wide_past in
    simp to_z-of_z (quot-rem c.args.nanoseconds (pos second))
