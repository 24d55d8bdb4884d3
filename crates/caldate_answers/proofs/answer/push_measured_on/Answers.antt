use Rattle.std.proofs.Common.{subst}
use Rattle.caldate_answers.specs.Answers.{IsMeasuredOn}
use Rattle.caldate_answers.proofs.answer.push_measured_on.Goals as goal

pub returns-in-Period-clause-none : goal.returns-in-Period-clause-none
returns-in-Period-clause-none c = λ no.
    let none = c.push_period_on.ensures.none no in (
      none.0,
      λ words h.
          let own = subst (λ m. IsMeasuredOn c.args.clock.now c.args.workdays.now m c.args.from.now c.args.to.now words) c.in-Period.is h in
          none.1 own.0 own.1,
    )
