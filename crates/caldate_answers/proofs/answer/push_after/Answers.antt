use Rattle.std.proofs.Common.{subst, sym}
use Rattle.caldate_answers.specs.Answers.{form_read}
use Rattle.caldate_answers.specs.Forms.{IsInForm}
use Rattle.caldate_answers.proofs.Periods.{one_after}
use Rattle.caldate_answers.proofs.answer.push_after.Goals as goal

pub returns-in-Some-clause-none : goal.returns-in-Some-clause-none
returns-in-Some-clause-none c = λ no.
    let found = c.args.found.now in
    let later = c.in-Some.later in
    let none = c.push_in_form.ensures.none no in (
      none.0,
      λ words h.
          let same = one_after found c.args.period h.0 later h.1 c.in-Some.ensures in
          none.1 words (subst (λ form. IsInForm form later words) (sym c.form_read.ensures) (subst (λ m. IsInForm (form_read found) m words) same h.2)),
    )
