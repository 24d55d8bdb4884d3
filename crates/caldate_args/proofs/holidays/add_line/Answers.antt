use Rattle.std.proofs.Common.{take}
use Rattle.caldate_args.proofs.HolidayLines.{line_added, line_invalid, too_many}
use Rattle.caldate_args.proofs.holidays.add_line.Goals as goal

pub returns-in-Some-clause-days : goal.returns-in-Some-clause-days
returns-in-Some-clause-days c = λ lines h.
    line_added lines c.args.line.now c.in-Ok.meaning (take c.args.count c.args.days.now) _ c.in-Ok.ensures.value
    (λ other is. let e = c.in-Ok.ensures.every other is in cc) c.in-Some.ensures.rising c.in-Some.ensures.days h

pub returns-in-None-clause-error : goal.returns-in-None-clause-error
returns-in-None-clause-error c = λ lines h. (
  (c.in-Ok.meaning, c.in-Ok.ensures.value),
  too_many lines c.args.line.now c.in-Ok.meaning (take c.args.count c.args.days.now) _ c.in-Ok.ensures.value h c.in-None.ensures.full,
)

pub returns-in-Err-clause-error : goal.returns-in-Err-clause-error
returns-in-Err-clause-error c = λ lines h. line_invalid lines c.args.line.now c.in-Err.error c.in-Err.ensures.error
