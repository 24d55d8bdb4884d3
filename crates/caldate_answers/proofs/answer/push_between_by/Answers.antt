use Rattle.std.proofs.Common.{subst}
use Rattle.caldate_answers.specs.Answers.{IsBetweenBy}
use Rattle.caldate_answers.proofs.answer.push_between_by.Goals as goal

pub returns-in-Some-clause-none : goal.returns-in-Some-clause-none
returns-in-Some-clause-none c = λ no.
    let none = c.push_between_on.ensures.none no in
    (none.0, λ words h. none.1 words (subst (λ o. IsBetweenBy o c.args.workdays.now c.args.measure c.args.from.now c.args.to.now words) c.in-Some.is h))

pub returns-in-None-clause-none : goal.returns-in-None-clause-none
returns-in-None-clause-none c = λ no.
    let none = c.push_between.ensures.none no in
    (none.0, λ words h. none.1 words (subst (λ o. IsBetweenBy o c.args.workdays.now c.args.measure c.args.from.now c.args.to.now words) c.in-None.is h))
