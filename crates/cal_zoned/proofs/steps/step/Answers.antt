use Rattle.std.proofs.lemmas.Int.{ints}
use Rattle.std.proofs.Common.{arith, pos, to_z, w32, ◌≡◌}
use Rattle.cal_zoned.proofs.steps.step.Goals as goal

pub returns-clause-every : goal.returns-clause-every
returns-clause-every c =
    let n : to_z w32 c.args.n ≡ pos c.args.n = omega (arith, ints) in
    rw n at c.nth_period.ensures.every

pub returns-clause-value : goal.returns-clause-value
returns-clause-value c =
    let n : to_z w32 c.args.n ≡ pos c.args.n = omega (arith, ints) in
    rw n at c.nth_period.ensures.value
