use Rattle.std.proofs.Common.{pos, FitsSigned, unsigned_abs, sym, ◌∙◌, rules, arith}
use Rattle.std.specs.Int.{w32, w64}
use Rattle.std.proofs.lemmas.Int.{ints, to_z-of_z}
use Rattle.cal_span.specs.SignedDuration.{IsDuration}
use Rattle.cal_span.proofs.Clamp.{clamp-inside, clamp-above}
use Rattle.cal_span.proofs.Parts.{magnitude, nanoseconds-below}
use Rattle.cal_span.proofs.signed_duration.SignedDuration.abs.Goals as goal

pub returns-in-Some : goal.returns-in-Some
returns-in-Some c =
    let s : FitsSigned w64 c.self.inside.seconds = search rules in
    let n : FitsSigned w32 c.self.inside.nanoseconds = search rules in
    let k = simp to_z-of_z at c.in-Some.ensures in
    let whole = magnitude c.self.inside c.args.self c.self.invariant c.self.view_is in
    let below = nanoseconds-below c.self.inside c.self.invariant in
    let d : IsDuration (pos (unsigned_abs c.args.self)) = record { at_least = omega (arith, ints); at_most = omega (arith, ints, k.0) } in
    (omega (arith, ints, k.1)) ∙ sym (clamp-inside (pos (unsigned_abs c.args.self)) d)

pub returns-in-None : goal.returns-in-None
returns-in-None c =
    let s : FitsSigned w64 c.self.inside.seconds = search rules in
    let not_fits = simp to_z-of_z at c.in-None.ensures in
    let whole = magnitude c.self.inside c.args.self c.self.invariant c.self.view_is in
    sym (clamp-above (pos (unsigned_abs c.args.self)) (omega (arith, ints)) (λ d. not_fits (omega (arith, ints, whole, d.at_most))))
