use Rattle.std.proofs.Common.{subst}
use Rattle.caldate_answers.specs.Answers.{IsMoved}
use Rattle.caldate_answers.proofs.answer.push_moved.Goals as goal

pub returns-in-Day-clause-none : goal.returns-in-Day-clause-none
returns-in-Day-clause-none c = λ no.
    let none = c.push_on_moved_day.ensures.none no in
    (none.0, λ words h. none.1 words (subst (λ by. IsMoved c.args.workdays.now by c.args.found.now words) c.in-Day.is h))

pub returns-in-Days-clause-none : goal.returns-in-Days-clause-none
returns-in-Days-clause-none c = λ no.
    let none = c.push_later.ensures.none no in
    (none.0, λ words h. none.1 words (subst (λ by. IsMoved c.args.workdays.now by c.args.found.now words) c.in-Days.is h))

pub returns-in-Add-clause-none : goal.returns-in-Add-clause-none
returns-in-Add-clause-none c = λ no.
    let none = c.push_later-in-Add.ensures.none no in
    (none.0, λ words h. none.1 words (subst (λ by. IsMoved c.args.workdays.now by c.args.found.now words) c.in-Add.is h))

pub returns-in-Period-clause-none : goal.returns-in-Period-clause-none
returns-in-Period-clause-none c = λ no.
    let none = c.push_after.ensures.none no in
    (none.0, λ words h. none.1 words (subst (λ by. IsMoved c.args.workdays.now by c.args.found.now words) c.in-Period.is h))

pub returns-in-Round-clause-none : goal.returns-in-Round-clause-none
returns-in-Round-clause-none c = λ no.
    let none = c.push_nearest.ensures.none no in
    (none.0, λ words h. none.1 words (subst (λ by. IsMoved c.args.workdays.now by c.args.found.now words) c.in-Round.is h))
