use Rattle.std.proofs.Common.{pos, FitsSigned, int_div, rules, arith}
use Rattle.std.specs.Int.{w64}
use Rattle.std.proofs.lemmas.Int.{ints, to_z-of_z}
use Rattle.cal_span.proofs.Parts.{whole-weeks}
use Rattle.cal_span.proofs.signed_duration.SignedDuration.whole_weeks.Goals as goal

pub returns : goal.returns
returns c =
    let s : FitsSigned w64 c.self.inside.seconds = search rules in
    let quotient : FitsSigned w64 (int_div c.self.inside.seconds (pos 604_800)) = omega (arith, ints, s) in
    simp to_z-of_z (whole-weeks c.self.inside c.args.self c.self.invariant c.self.view_is)
