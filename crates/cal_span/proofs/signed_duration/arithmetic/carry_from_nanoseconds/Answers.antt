use Rattle.std.proofs.Common.{◌-ℤ◌, FitsSigned, rules, arith}
use Rattle.std.specs.Int.{w32}
use Rattle.std.proofs.lemmas.Int.{ints, to_z-of_z}
use Rattle.cal_span.proofs.Carry.{counted, AreBounds, IsCarry-counted}
use Rattle.cal_span.proofs.signed_duration.arithmetic.carry_from_nanoseconds.Goals as goal
use Rattle.cal_span.proofs.signed_duration.arithmetic.carry_from_nanoseconds.Goals.{then-seconds-lt0, else-seconds-lt0, then-seconds-gt0, else-seconds-gt0}

pub returns : goal.returns
returns c =
    let bounds : AreBounds c.args.seconds c.if-seconds-lt0.most c.if-seconds-gt0.least = record {
      against_after = elim c.if-seconds-lt0.branch [ then-seconds-lt0 w ↦ λ h. omega (arith, ints) | else-seconds-lt0 w ↦ λ h. absurd (omega (arith, ints)) ];
      along_after = elim c.if-seconds-lt0.branch [ then-seconds-lt0 w ↦ λ h. absurd (omega (arith, ints)) | else-seconds-lt0 w ↦ λ h. omega (arith, ints) ];
      against_before = elim c.if-seconds-gt0.branch [ then-seconds-gt0 w ↦ λ h. omega (arith, ints) | else-seconds-gt0 w ↦ λ h. absurd (omega (arith, ints)) ];
      along_before = elim c.if-seconds-gt0.branch [ then-seconds-gt0 w ↦ λ h. absurd (omega (arith, ints)) | else-seconds-gt0 w ↦ λ h. omega (arith, ints) ];
    } in
    let n = c.ranges.nanoseconds in
    let above = counted c.if-seconds-lt0.most c.args.nanoseconds c.from.result (simp (to_z-of_z, c.if-seconds-lt0.most-is) at c.from.ensures) in
    let below = counted c.args.nanoseconds c.if-seconds-gt0.least c.from-2.result (simp (to_z-of_z, c.if-seconds-gt0.least-is) at c.from-2.ensures) in
    let carry = IsCarry-counted c.args.seconds c.args.nanoseconds c.if-seconds-lt0.most c.if-seconds-gt0.least c.from.result c.from-2.result c.requires bounds above below in
    let x : FitsSigned w32 c.from.result = search rules in
    let y : FitsSigned w32 c.from-2.result = search rules in
    let xy : FitsSigned w32 (c.from.result -ℤ c.from-2.result) = omega (arith, ints, carry.at_least, carry.at_most) in
    simp to_z-of_z carry
