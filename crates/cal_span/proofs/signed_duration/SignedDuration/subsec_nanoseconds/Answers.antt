use Rattle.std.proofs.Common.{FitsSigned, rules, sym, ◌∙◌}
use Rattle.std.specs.Int.{w32}
use Rattle.std.proofs.lemmas.Int.{to_z-of_z}
use Rattle.cal_span.proofs.Product.{subsec_nanoseconds-fields}
use Rattle.cal_span.proofs.signed_duration.SignedDuration.subsec_nanoseconds.Goals as goal

pub returns : goal.returns
returns c =
    let n : FitsSigned w32 c.self.inside.nanoseconds = search rules in
    to_z-of_z w32 c.self.inside.nanoseconds n ∙ sym (subsec_nanoseconds-fields c.self.inside c.args.self c.self.invariant c.self.view_is)
