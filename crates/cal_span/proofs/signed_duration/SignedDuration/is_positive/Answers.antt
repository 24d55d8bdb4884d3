use Rattle.std.proofs.Common.{arith, rules}
use Rattle.std.proofs.lemmas.Int.{ints}
use Rattle.cal_span.proofs.Parts.{parts}
use Rattle.cal_span.proofs.signed_duration.SignedDuration.is_positive.Goals as goal

pub returns-then-self-gt0 : goal.returns-then-self-gt0
returns-then-self-gt0 c =
    let p = parts c.self.inside c.self.invariant in
    (λ t. omega (arith, ints), λ above. search rules)

pub returns-else-self-gt0 : goal.returns-else-self-gt0
returns-else-self-gt0 c =
    let p = parts c.self.inside c.self.invariant in
    grind (arith, ints)
