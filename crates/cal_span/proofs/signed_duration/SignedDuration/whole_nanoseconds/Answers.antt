use Rattle.std.proofs.Common.{FitsSigned, subst, rules, arith}
use Rattle.std.specs.Int.{w64}
use Rattle.std.proofs.lemmas.Int.{ints}
use Rattle.cal_span.specs.SignedDuration.{IsDuration}
use Rattle.cal_span.proofs.Carry.{IsDuration-fields}
use Rattle.cal_span.proofs.signed_duration.SignedDuration.whole_nanoseconds.Goals as goal

pub overflow_add-result : goal.overflow_add-result
overflow_add-result c = omega (arith, ints)

pub returns-clause-value : goal.returns-clause-value
returns-clause-value c = omega (arith, ints)

pub returns-clause-range : goal.returns-clause-range
returns-clause-range c =
    let s : FitsSigned w64 c.self.inside.seconds = search rules in
    subst IsDuration c.self.view_is (IsDuration-fields c.self.inside c.self.invariant s)
