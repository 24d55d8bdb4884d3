use Rattle.caldate_answers.proofs.Periods.{period_on-is}
use Rattle.caldate_answers.proofs.answer.periods.period_on.Goals as goal

pub returns : goal.returns
returns c =
    period_on-is c.args.clock.now c.args.from.now c.args.to.now c.in_ok-start.start c.in_ok-end.end c.period_until.result
    c.in_ok-start.ensures.has c.in_ok-end.ensures.has c.period_until.ensures.value c.period_until.ensures.none
