use Rattle.std.proofs.Common.{subst, sym}
use Rattle.cal_datetime.specs.OffsetDateTime.{LocalAndOffset}
use Rattle.caldate_answers.specs.Answers.{IsMeasured, moment_of}
use Rattle.caldate_answers.specs.Periods.{IsPeriodBetween}
use Rattle.caldate_answers.proofs.answer.push_measured.Goals as goal

pub returns-in-Period-clause-none : goal.returns-in-Period-clause-none
returns-in-Period-clause-none c = λ no.
    let none = c.push_period_between.ensures.none no in (
      none.0,
      λ words h.
          let own = subst (λ m. IsMeasured c.args.workdays.now m c.args.from.now c.args.to.now words) c.in-Period.is h in
          none.1 own.0
          (subst (λ (m : LocalAndOffset). IsPeriodBetween m c.moment_of-in-Period-2.result own.0) (sym c.moment_of-in-Period.ensures)
          (subst (λ (m : LocalAndOffset). IsPeriodBetween (moment_of c.args.from.now) m own.0) (sym c.moment_of-in-Period-2.ensures) own.1)),
    )
