use Rattle.std.proofs.Common.{◌∙◌, ◌∷◌, ap, arith, subst, sym, take}
use Rattle.caldate_answers.specs.Readers.{IsUnread}
use Rattle.caldate_answers.proofs.FirstForms.{others_of, parts}
use Rattle.caldate_answers.proofs.TextBounds.{rejected_by}
use Rattle.caldate_answers.proofs.scan.bound.+bound_in.Goals as goal

pub returns-in-len1-up-clause-rejected : goal.returns-in-len1-up-clause-rejected
returns-in-len1-up-clause-rejected t c = λ n any fits h e.
    let readers = c.args.readers.now in
    let text = take n c.args.bytes.now in
    let whole = parts readers c.first-item.result c.in-len1-up.len_at_least ∙ ap (λ r. r ∷ others_of readers) (sym c.first-item.is) in
    rejected_by c.args.assumptions.now c.first-item.result (others_of readers) text any
    (λ own is has. let first = c.bound_by.ensures.rejected n own fits is has in omega (arith, first, c.max.ensures))
    (λ later is has. let other = c.bound_in.ensures.rejected n later fits is has in omega (arith, other, c.max.ensures))
    (subst (λ rs. IsUnread c.args.assumptions.now rs text any) whole h) e
