use Rattle.std.proofs.Common.{◌≡◌, Ok, Err, inl, inr, subst, sym}
use Rattle.caldate_answers.specs.Readers.{IsFoundBy, IsUnread}
use Rattle.caldate_answers.proofs.ReadWith.{is_not_read, is_read, same_placed}
use Rattle.caldate_answers.proofs.answer.read_with.Goals as goal

pub returns-in-Ok-clause-every : goal.returns-in-Ok-clause-every
returns-in-Ok-clause-every c = λ found h.
    let filter = c.args.filter.now in
    let e = c.in-Ok.ensures.every h.0 (subst (λ forms. IsFoundBy filter.assumptions forms c.args.text.now h.0) (sym c.as_slice.ensures) h.1) in
    c.placed.ensures.one (Ok found) (same_placed filter.clock c.in-Ok.found h.0 (Ok found) e h.2)

pub returns-in-Ok-clause-has : goal.returns-in-Ok-clause-has
returns-in-Ok-clause-has c =
    let filter = c.args.filter.now in
    is_read filter c.args.text.now c.in-Ok.found c.placed.result
    (subst (λ forms. IsFoundBy filter.assumptions forms c.args.text.now c.in-Ok.found) c.as_slice.ensures c.in-Ok.ensures.has) c.placed.ensures.value

pub returns-in-Ok-clause-every_error : goal.returns-in-Ok-clause-every_error
returns-in-Ok-clause-every_error c = λ why h.
    let filter = c.args.filter.now in
    let found = subst (λ forms. IsFoundBy filter.assumptions forms c.args.text.now c.in-Ok.found) c.as_slice.ensures c.in-Ok.ensures.has in
    elim h as (λ _. c.placed.result ≡ Err why) [
      | inl unread ↦ absurd (unread.none c.in-Ok.found found)
      | inr other ↦
          let e = c.in-Ok.ensures.every other.0 (subst (λ forms. IsFoundBy filter.assumptions forms c.args.text.now other.0) (sym c.as_slice.ensures) other.1) in
          c.placed.ensures.one (Err why) (same_placed filter.clock c.in-Ok.found other.0 (Err why) e other.2)
    ]

pub returns-in-Ok-clause-error : goal.returns-in-Ok-clause-error
returns-in-Ok-clause-error c =
    let filter = c.args.filter.now in
    is_not_read filter c.args.text.now c.in-Ok.found c.placed.result
    (subst (λ forms. IsFoundBy filter.assumptions forms c.args.text.now c.in-Ok.found) c.as_slice.ensures c.in-Ok.ensures.has) c.placed.ensures.value

pub returns-in-Err-clause-every : goal.returns-in-Err-clause-every
returns-in-Err-clause-every c = λ found h.
    let filter = c.args.filter.now in
    let e = c.in-Err.ensures.every h.0 (subst (λ forms. IsFoundBy filter.assumptions forms c.args.text.now h.0) (sym c.as_slice.ensures) h.1) in
    cc

pub returns-in-Err-clause-every_error : goal.returns-in-Err-clause-every_error
returns-in-Err-clause-every_error c = λ why h.
    let filter = c.args.filter.now in
    elim h as (λ _. Err c.in-Err.why ≡ Err why) [
      | inl unread ↦ c.in-Err.ensures.every_error why (subst (λ forms. IsUnread filter.assumptions forms c.args.text.now why) (sym c.as_slice.ensures) unread)
      | inr other ↦
          let e = c.in-Err.ensures.every other.0 (subst (λ forms. IsFoundBy filter.assumptions forms c.args.text.now other.0) (sym c.as_slice.ensures) other.1) in
          cc
    ]

pub returns-in-Err-clause-error : goal.returns-in-Err-clause-error
returns-in-Err-clause-error c =
    let filter = c.args.filter.now in
    inl (subst (λ forms. IsUnread filter.assumptions forms c.args.text.now c.in-Err.why) c.as_slice.ensures c.in-Err.ensures.error)
