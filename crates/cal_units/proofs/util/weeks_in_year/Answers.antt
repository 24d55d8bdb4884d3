use Rattle.std.proofs.Common.{arith}
use Rattle.std.proofs.lemmas.Int.{ints}
use Rattle.std.proofs.lemmas.Bool.Decides.{nat_tests}
use Rattle.cal_units.proofs.Weeks.{weeks_in_year-is}
use Rattle.cal_units.proofs.util.weeks_in_year.Goals as goal

pub returns-then-next_begins_on-eq-FRIDAY : goal.returns-then-next_begins_on-eq-FRIDAY
returns-then-next_begins_on-eq-FRIDAY c =
    let is = weeks_in_year-is c.args.year in
    grind (arith, ints, nat_tests)

pub returns-else-next_begins_on-eq-FRIDAY : goal.returns-else-next_begins_on-eq-FRIDAY
returns-else-next_begins_on-eq-FRIDAY c =
    let is = weeks_in_year-is c.args.year in
    grind (arith, ints, nat_tests)
