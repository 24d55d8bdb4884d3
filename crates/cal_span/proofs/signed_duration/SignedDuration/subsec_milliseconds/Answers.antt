use Rattle.std.proofs.Common.{arith}
use Rattle.std.proofs.lemmas.Int.{ints}
use Rattle.cal_span.proofs.Product.{subsec_nanoseconds-fields}
use Rattle.cal_span.proofs.signed_duration.SignedDuration.subsec_milliseconds.Goals as goal

pub returns : goal.returns
returns c =
    rw (subsec_nanoseconds-fields c.self.inside c.args.self c.self.invariant c.self.view_is)
    (omega (arith, ints))
