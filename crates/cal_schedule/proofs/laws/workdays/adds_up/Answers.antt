use Rattle.std.proofs.Common.{arith}
use Rattle.std.proofs.lemmas.Int.{ints}
use Rattle.cal_schedule.specs.WorkdaysLaws.{between-is}
use Rattle.cal_schedule.proofs.laws.workdays.adds_up.Goals as goal

pub returns : goal.returns
returns c =
    let w = c.args.workdays.now in
    omega (arith, ints, between-is w c.args.first c.args.second, between-is w c.args.second c.args.third, between-is w c.args.first c.args.third)
