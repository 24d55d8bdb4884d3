use Rattle.std.proofs.Common.{◌∙◌, ap, sym, subst}
use Rattle.cal_datetime.specs.DateTime.{date_at}
use Rattle.cal_datetime.specs.OffsetDateTime.{LocalAndOffset}
use Rattle.caldate_answers.specs.Answers.{day_of, form_read, moment_of, on_day}
use Rattle.caldate_answers.specs.Forms.{IsInForm}
use Rattle.caldate_answers.specs.Moves.{MovesTo}
use Rattle.caldate_answers.proofs.Leads.{one_lead}
use Rattle.caldate_answers.proofs.answer.push_on_moved_day.Goals as goal

pub returns-in-Some-clause-none : goal.returns-in-Some-clause-none
returns-in-Some-clause-none c = λ no.
    let by = c.args.by in
    let found = c.args.found.now in
    let day = c.in-Some.day in
    let none = c.push_in_form.ensures.none no in
    let from = c.date.ensures.value ∙ ap (λ (m : LocalAndOffset). date_at m.local) c.moment_of-moment.ensures in
    let workdays = c.args.workdays.now in
    let leads : MovesTo workdays by (day_of found) day = subst (λ n. MovesTo workdays by n day) from c.in-Some.ensures in
    let there = c.on_day.ensures ∙ ap (λ (m : LocalAndOffset). on_day m day) c.moment_of-moment.ensures in (
      none.0,
      λ words h.
          let moment = ap (on_day (moment_of found)) (one_lead workdays by (day_of found) h.0 day h.1 leads) ∙ sym there in
          none.1 words (subst (λ form. IsInForm form c.on_day.result words) (sym c.form_read-form.ensures) (subst (λ m. IsInForm (form_read found) m words) moment h.2)),
    )
