use Rattle.std.proofs.Common.{arith}
use Rattle.cal_zone.proofs.Rules.{size}
use Rattle.cal_zone.proofs.unchecked_zone.later_len.Goals as goal

pub returns-in-Some-clause-len : goal.returns-in-Some-clause-len
returns-in-Some-clause-len c =
    rw c.in-Some.is (omega (arith, size c.in-Some.rule.one c.in-Some.rule.other c.args.skip, c.len.ensures.len))
