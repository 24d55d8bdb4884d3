use Rattle.std.proofs.Common.{arith}
use Rattle.std.proofs.lemmas.Int.{ints}
use Rattle.cal_rounding.proofs.Multiples.{rounds_duration}
use Rattle.cal_rounding.proofs.duration.round_duration.Goals as goal

pub returns-clause-value : goal.returns-clause-value
returns-clause-value c = λ positive.
    rounds_duration _ _ _ _ _ c.args.duration c.args.unit _ c.is_negative-is_negative.ensures c.magnitude.ensures.value c.magnitude-2.ensures.value
    c.rounded_magnitude-rounded.ensures.value c.checked_duration.ensures

pub returns-clause-unit : goal.returns-clause-unit
returns-clause-unit c = λ none.
    let some = c.is_positive.ensures.0 c.if-not-is_positive.false in
    absurd (omega (arith, ints, none, some))
