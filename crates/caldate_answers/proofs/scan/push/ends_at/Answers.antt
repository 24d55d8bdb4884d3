use Rattle.caldate_answers.proofs.Scans.{some_text}
use Rattle.caldate_answers.proofs.scan.push.ends_at.Goals as goal

pub returns-in-Some-clause-goes_on : goal.returns-in-Some-clause-goes_on
returns-in-Some-clause-goes_on c = λ e stop none.
    some_text c.args.filter.now c.args.line.now 0 c.in-Some._text.place c.in-Some._text.count c.in-Some.ensures.first none

pub returns-in-None-clause-ends : goal.returns-in-None-clause-ends
returns-in-None-clause-ends c = λ e. (c.in-Stop.is, c.in-None.ensures.first)
