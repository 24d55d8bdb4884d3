use Rattle.std.proofs.Common.{refl, subst, sym}
use Rattle.cal_datetime.specs.OffsetDateTime.{LocalAndOffset}
use Rattle.caldate_answers.specs.Answers.{form_read, moment_of}
use Rattle.caldate_answers.specs.Forms.{IsInForm}
use Rattle.caldate_answers.specs.Moves.{IsNearest}
use Rattle.caldate_answers.proofs.Periods.{one_nearest}
use Rattle.caldate_answers.proofs.answer.push_nearest.Goals as goal

pub returns-in-Some-clause-none : goal.returns-in-Some-clause-none
returns-in-Some-clause-none c = λ no.
    let found = c.args.found.now in
    let rounded = c.in-Some.rounded in
    let none = c.push_in_form.ensures.none no in (
      none.0,
      λ words h.
          let own = subst (λ (m : LocalAndOffset). IsNearest c.args.unit m rounded) c.moment_of.ensures c.in-Some.ensures in
          let same = one_nearest c.args.unit (moment_of found) h.0 rounded h.1 own in
          none.1 words (subst (λ form. IsInForm form rounded words) (sym c.form_read.ensures) (subst (λ m. IsInForm (form_read found) m words) same h.2)),
    )

pub returns-in-None-clause-none : goal.returns-in-None-clause-none
returns-in-None-clause-none c = λ no. (refl, λ words h. c.in-None.ensures h.0 (subst (λ (m : LocalAndOffset). IsNearest c.args.unit m h.0) (sym c.moment_of.ensures) h.1))
