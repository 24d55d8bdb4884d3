use Rattle.std.proofs.Common.{◌≡◌, ◌∙◌, sym, subst}
use Rattle.std.specs.Prelude.{ℤ}
use Rattle.cal_datetime.specs.OffsetDateTime.{instant, local_at}
use Rattle.caldate_answers.specs.Forms.{IsInForm}
use Rattle.caldate_answers.proofs.answer.push_at.Goals as goal

pub returns-in-Some-clause-none : goal.returns-in-Some-clause-none
returns-in-Some-clause-none c = λ no.
    let none = c.push_in_form.ensures.none no in (
      none.0,
      λ words h. none.1 words (subst (λ m. IsInForm c.args.form m words) (subst (λ (o : ℤ). h.0 ≡ record { local = local_at (instant c.args.moment) o; offset = o }) (sym c.offset_in.ensures) h.1.value ∙ sym c.in-Some.ensures.value.1) h.2),
    )
