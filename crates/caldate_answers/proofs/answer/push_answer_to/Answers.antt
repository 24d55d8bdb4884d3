use Rattle.std.proofs.Common.{subst, sym}
use Rattle.cal_text.specs.declared.any.MomentForm.TheVariants.{Rfc3339}
use Rattle.caldate_answers.specs.Answers.{IsAnswerTo, IsAt, IsMovedAt, IsInLanguageAt, IsPrintedAt, form_iso}
use Rattle.caldate_answers.specs.Forms.{IsInForm, IsInLanguage}
use Rattle.caldate_answers.specs.declared.request.Form.TheVariants.{Moment}
use Rattle.caldate_answers.proofs.answer.push_answer_to.Goals as goal

pub returns-in-Move-clause-none : goal.returns-in-Move-clause-none
returns-in-Move-clause-none c = λ no.
    let none = c.push_moved_by.ensures.none no in
    (none.0, λ words h. none.1 words (subst (λ q. IsAnswerTo c.args.clock.now c.args.workdays.now q c.args.text.now c.args.found.now words) c.in-Move.is h))

pub returns-in-MoveAt-clause-none : goal.returns-in-MoveAt-clause-none
returns-in-MoveAt-clause-none c = λ no.
    let workdays = c.args.workdays.now in
    let none = c.push_moved_at.ensures.none no in (
      none.0,
      λ words h.
          let h = subst (λ q. IsAnswerTo c.args.clock.now workdays q c.args.text.now c.args.found.now words) c.in-MoveAt.is h in
          none.1 words (subst (λ m. IsMovedAt c.in-MoveAt.clock workdays c.in-MoveAt.by (Moment Rfc3339) m words) (sym c.moment_of-in-MoveAt.ensures) h),
    )

pub returns-in-ToIso-clause-none : goal.returns-in-ToIso-clause-none
returns-in-ToIso-clause-none c = λ no.
    let none = c.push_in_form-in-ToIso.ensures.none no in (
      none.0,
      λ words h.
          let h = subst (λ q. IsAnswerTo c.args.clock.now c.args.workdays.now q c.args.text.now c.args.found.now words) c.in-ToIso.is h in
          none.1 words (subst (λ form. IsInForm form c.moment_of-in-ToIso.result words) (sym c.form_iso.ensures) (subst (λ m. IsInForm (form_iso c.args.found.now) m words) (sym c.moment_of-in-ToIso.ensures) h)),
    )

pub returns-in-At-clause-none : goal.returns-in-At-clause-none
returns-in-At-clause-none c = λ no.
    let none = c.push_at.ensures.none no in (
      none.0,
      λ words h.
          let h = subst (λ q. IsAnswerTo c.args.clock.now c.args.workdays.now q c.args.text.now c.args.found.now words) c.in-At.is h in
          none.1 words (subst (λ m. IsAt c.in-At.place c.in-At.form m words) (sym c.moment_of-in-At.ensures) h),
    )

pub returns-in-PrintAt-clause-none : goal.returns-in-PrintAt-clause-none
returns-in-PrintAt-clause-none c = λ no.
    let none = c.push_printed_at.ensures.none no in (
      none.0,
      λ words h.
          let h = subst (λ q. IsAnswerTo c.args.clock.now c.args.workdays.now q c.args.text.now c.args.found.now words) c.in-PrintAt.is h in
          none.1 words (subst (λ m. IsPrintedAt c.in-PrintAt.place c.in-PrintAt.format m words) (sym c.moment_of-in-PrintAt.ensures) h),
    )

pub returns-in-PrintInLanguage-clause-none : goal.returns-in-PrintInLanguage-clause-none
returns-in-PrintInLanguage-clause-none c = λ no.
    let none = c.push_named.ensures.none no in (
      none.0,
      λ words h.
          let h = subst (λ q. IsAnswerTo c.args.clock.now c.args.workdays.now q c.args.text.now c.args.found.now words) c.in-PrintInLanguage.is h in
          none.1 words (subst (λ m. IsInLanguage c.in-PrintInLanguage.names.now c.in-PrintInLanguage.format m words) (sym c.moment_of-in-PrintInLanguage.ensures) h),
    )

pub returns-in-PrintInLanguageAt-clause-none : goal.returns-in-PrintInLanguageAt-clause-none
returns-in-PrintInLanguageAt-clause-none c = λ no.
    let none = c.push_named_at.ensures.none no in (
      none.0,
      λ words h.
          let h = subst (λ q. IsAnswerTo c.args.clock.now c.args.workdays.now q c.args.text.now c.args.found.now words) c.in-PrintInLanguageAt.is h in
          none.1 words (subst (λ m. IsInLanguageAt c.in-PrintInLanguageAt.place c.in-PrintInLanguageAt.names.now c.in-PrintInLanguageAt.format m words) (sym c.moment_of-in-PrintInLanguageAt.ensures) h),
    )
