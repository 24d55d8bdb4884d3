use Rattle.std.proofs.Common.{◌≡◌, Ok, Err, refl, subst}
use Rattle.caldate_answers.specs.Forms.{IsInForm}
use Rattle.caldate_answers.proofs.ClockMoves.{one_moved_on}
use Rattle.caldate_answers.proofs.answer.push_moved_at.Goals as goal

pub returns-in-Ok-clause-none : goal.returns-in-Ok-clause-none
returns-in-Ok-clause-none c = λ no.
    let none = c.push_in_form.ensures.none no in (
      none.0,
      λ words h.
          let same = one_moved_on c.args.clock.now c.args.workdays.now c.args.by c.args.moment (Ok h.0) (Ok c.in-Ok.moved) c.one_local.ensures h.1 c.in-Ok.ensures in
          let moment : h.0 ≡ c.in-Ok.moved = cc in
          none.1 words (subst (λ m. IsInForm c.args.form m words) moment h.2),
    )

pub returns-in-Err-clause-none : goal.returns-in-Err-clause-none
returns-in-Err-clause-none c = λ no. (
  refl,
  λ words h.
      let same = one_moved_on c.args.clock.now c.args.workdays.now c.args.by c.args.moment (Ok h.0) (Err c.in-Err.field-0) c.one_local.ensures h.1 c.in-Err.ensures in
      absurd cc,
)
