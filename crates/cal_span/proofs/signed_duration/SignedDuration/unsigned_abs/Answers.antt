use Rattle.std.proofs.Common.{FitsSigned, unsigned_abs, ◌∙◌, rules}
use Rattle.std.specs.Int.{w32, w64}
use Rattle.std.proofs.lemmas.Int.{to_z-of_z}
use Rattle.cal_span.proofs.Parts.{magnitude, nanoseconds-below, magnitude-seconds, magnitude-nanoseconds}
use Rattle.cal_span.proofs.signed_duration.SignedDuration.unsigned_abs.Goals as goal

pub returns-clause-seconds : goal.returns-clause-seconds
returns-clause-seconds c =
    let s : FitsSigned w64 c.self.inside.seconds = search rules in
    let whole = magnitude c.self.inside c.args.self c.self.invariant c.self.view_is in
    simp to_z-of_z at c.unsigned_abs.ensures.value
    ∙ magnitude-seconds (unsigned_abs c.args.self) (unsigned_abs c.self.inside.seconds) (unsigned_abs c.self.inside.nanoseconds) whole (nanoseconds-below c.self.inside c.self.invariant)

pub returns-clause-nanoseconds : goal.returns-clause-nanoseconds
returns-clause-nanoseconds c =
    let n : FitsSigned w32 c.self.inside.nanoseconds = search rules in
    let whole = magnitude c.self.inside c.args.self c.self.invariant c.self.view_is in
    simp to_z-of_z at c.unsigned_abs-2.ensures.value
    ∙ magnitude-nanoseconds (unsigned_abs c.args.self) (unsigned_abs c.self.inside.seconds) (unsigned_abs c.self.inside.nanoseconds) whole (nanoseconds-below c.self.inside c.self.invariant)
