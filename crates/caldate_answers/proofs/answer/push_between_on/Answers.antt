use Rattle.std.proofs.Common.{subst}
use Rattle.caldate_answers.specs.Answers.{IsBetweenOn}
use Rattle.caldate_answers.proofs.answer.push_between_on.Goals as goal

pub returns-in-Some-clause-none : goal.returns-in-Some-clause-none
returns-in-Some-clause-none c = λ no.
    let none = c.push_measured_on.ensures.none no in
    (none.0, λ words h. none.1 words (subst (λ m. IsBetweenOn c.args.clock.now c.args.workdays.now m c.args.from.now c.args.to.now words) c.in-Some.is h))
