use Rattle.std.proofs.Common.{Some, subst}
use Rattle.caldate_answers.specs.Answers.{IsMovedBy}
use Rattle.caldate_answers.proofs.answer.push_moved_by.Goals as goal

pub returns-in-Some-Moment-clause-none : goal.returns-in-Some-Moment-clause-none
returns-in-Some-Moment-clause-none c = λ no.
    let workdays = c.args.workdays.now in
    let by = c.args.by.now in
    let none = c.push_moved_at.ensures.none no in (
      none.0,
      λ words h.
          let on = subst (λ o. IsMovedBy o workdays by c.args.found.now words) c.in-Some-Moment.is-0 h in
          none.1 words (subst (λ found. IsMovedBy (Some c.in-Some-Moment.clock) workdays by found words) c.in-Some-Moment.is-1 on),
    )
