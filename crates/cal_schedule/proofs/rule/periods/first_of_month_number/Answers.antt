use Rattle.std.proofs.Common.{◌≤◌, arith}
use Rattle.std.proofs.lemmas.Bool.Decides.{nat_tests}
use Rattle.std.proofs.lemmas.Int.{ints}
use Rattle.cal_time.specs.DateLimits.{months_in_range}
use Rattle.cal_schedule.proofs.Rules.{first_day-month, no_month}
use Rattle.cal_schedule.proofs.rule.periods.first_of_month_number.Goals as goal

pub returns-then-index-lt-MONTHS : goal.returns-then-index-lt-MONTHS
returns-then-index-lt-MONTHS c =
    let first = c.clamped_date_in_month.ensures in
    first_day-month c.args.index c.clamped_date_in_month.result (omega (arith, ints, first.month)) first.range first.day

pub returns-else-index-lt-MONTHS : goal.returns-else-index-lt-MONTHS
returns-else-index-lt-MONTHS c =
    let past : months_in_range ≤ c.args.index = grind (arith, nat_tests) in
    no_month c.args.index past
