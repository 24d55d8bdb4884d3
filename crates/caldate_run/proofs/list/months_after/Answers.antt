use Rattle.std.proofs.Common.{arith}
use Rattle.std.proofs.lemmas.Int.{ints}
use Rattle.caldate_run.proofs.Listed.{by_few, near}
use Rattle.caldate_run.proofs.list.months_after.Goals as goal

pub returns-clause-day : goal.returns-clause-day
returns-clause-day c =
    let later = c.checked_add_months.ensures in
    by_few c.args.date c.args.months _ c.checked_add_months.result later.in_range (omega (arith, ints, c.min.ensures)) later.every later.value

pub returns-clause-near : goal.returns-clause-near
returns-clause-near c =
    let later = c.checked_add_months.ensures in
    near c.args.date c.args.months _ c.checked_add_months.result later.in_range (omega (arith, ints, c.min.ensures)) later.value
