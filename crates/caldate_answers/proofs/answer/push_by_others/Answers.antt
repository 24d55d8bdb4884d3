use Rattle.std.proofs.Common.{inl, refl, subst, sym}
use Rattle.caldate_answers.specs.Answers.{IsNotRead}
use Rattle.caldate_answers.specs.Readers.{IsFoundBy, IsUnread}
use Rattle.caldate_answers.proofs.ReadWith.{not_read_first, others_are, read_later}
use Rattle.caldate_answers.proofs.answer.push_by_others.Goals as goal

pub push_found-requires-clause-read : goal.push_found-requires-clause-read
push_found-requires-clause-read c =
    let filter = c.args.filter.now in
    let rest = others_are filter c.as_slice.result.now c.requires.forms c.as_slice.ensures in
    read_later filter c.args.text.now c.in-Ok.found c.requires.forms c.requires.clock c.requires.unread
    (subst (λ l. IsFoundBy filter.assumptions l c.args.text.now c.in-Ok.found) rest c.in-Ok.ensures.has)

pub returns-in-Err-clause-answered : goal.returns-in-Err-clause-answered
returns-in-Err-clause-answered c =
    let filter = c.args.filter.now in
    let rest = others_are filter c.as_slice.result.now c.requires.forms c.as_slice.ensures in (
      refl,
      inl (subst (IsNotRead filter c.args.text.now) (sym c.first_reason.ensures) (not_read_first filter c.args.text.now c.args.why c.in-Err.later c.requires.forms c.requires.unread
          (λ g h. c.in-Err.ensures.every g (subst (λ l. IsFoundBy filter.assumptions l c.args.text.now g) (sym rest) h)) c.requires.why
          (subst (λ l. IsUnread filter.assumptions l c.args.text.now c.in-Err.later) rest c.in-Err.ensures.error))),
    )
