use Rattle.std.proofs.Common.{◌≡◌, ◌+◌, ◌-◌, ◌*◌, ◌/◌, suc, arith}
use Rattle.std.proofs.lemmas.Bool.Decides.{nat_tests}
use Rattle.cal_date.specs.Date.{last_day}
use Rattle.cal_date.proofs.Occurrences.{next_found}
use Rattle.cal_date.proofs.Weekdays.{weekday_at-is}
use Rattle.cal_date.proofs.day_number.nth_next_occurrence.Goals as goal

pub returns-then-later-clause-value : goal.returns-then-later-clause-value
returns-then-later-clause-value c =
    let count : suc (c.args.n - 1) ≡ c.args.n = omega arith in
    let found = next_found c.args.weekday c.args.number (c.args.n - 1) (7 * (last_day / 7 + 1)) c.requires.weekday c.requires.in_range (omega arith) (omega arith) in
    rw (← count, found) (grind (arith, nat_tests))

pub returns-then-later-clause-weekday : goal.returns-then-later-clause-weekday
returns-then-later-clause-weekday c = omega (arith, weekday_at-is (c.args.number + (c.from-first.result + 1) + 7 * (c.from.result - 1)))

pub returns-else-later-clause-value : goal.returns-else-later-clause-value
returns-else-later-clause-value c =
    let count : suc (c.args.n - 1) ≡ c.args.n = omega arith in
    let found = next_found c.args.weekday c.args.number (c.args.n - 1) (7 * (last_day / 7 + 1)) c.requires.weekday c.requires.in_range (omega arith) (omega arith) in
    rw (← count, found) (grind (arith, nat_tests))
