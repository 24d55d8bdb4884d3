use Rattle.std.proofs.Common.{arith}
use Rattle.std.proofs.lemmas.Int.{ints}
use Rattle.cal_schedule.specs.WorkdaysLaws.{none-within}
use Rattle.cal_schedule.proofs.WorkdaysSearch.{within-same}
use Rattle.cal_schedule.proofs.workdays.calendar.Workdays.workdays_between.Goals as goal

pub returns-then-first-last-clause-value : goal.returns-then-first-last-clause-value
returns-then-first-last-clause-value c =
    let w = c.args.self.now in
    let same = within-same w _ _ c.args.from c.args.to c.day_number-first.ensures.value c.day_number-last.ensures.value in
    omega (arith, ints, same, none-within w c.args.to c.args.from (omega arith))

pub returns-else-first-last-clause-value : goal.returns-else-first-last-clause-value
returns-else-first-last-clause-value c =
    let w = c.args.self.now in
    let same = within-same w _ _ c.args.to c.args.from c.day_number-last.ensures.value c.day_number-first.ensures.value in
    omega (arith, ints, same, none-within w c.args.from c.args.to (omega arith))
