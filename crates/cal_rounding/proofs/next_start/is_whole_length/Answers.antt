use Rattle.std.proofs.Common.{inr, arith}
use Rattle.std.proofs.lemmas.Int.{ints}
use Rattle.std.specs.Prelude.{◌<ℤ◌}
use Rattle.cal_rounding.proofs.Starts.{whole_length}
use Rattle.cal_rounding.proofs.next_start.is_whole_length.Goals as goal

pub returns-clause-whole : goal.returns-clause-whole
returns-clause-whole c = λ up some.
    let less : c.args.past <ℤ c.args.length = grind (arith, ints, c.le.ensures, c.if-le.false) in
    inr (whole_length c.args.mode _ _ c.args.length c.args.past c.magnitude-2.ensures.value c.magnitude.ensures.value some less (c.is_away_from_zero.ensures.away up))
