use Rattle.std.proofs.Common.{rules, ◌∙◌, ◌∷◌, ap, inl, subst, sym}
use Rattle.caldate_answers.specs.Readers.{IsFoundBy}
use Rattle.caldate_answers.proofs.FirstForms.{other_has, others_of, parts}
use Rattle.caldate_answers.proofs.reading.readers.+read.Goals as goal

pub read-read_by-requires : goal.read-read_by-requires
read-read_by-requires t c = search rules

pub read-returns-in-Ok-clause-every_error : goal.read-returns-in-Ok-clause-every_error
read-returns-in-Ok-clause-every_error t c = λ any h.
    let readers = c.args.readers.now in
    let whole = parts readers c.first-item.result c.in-len1-up.len_at_least ∙ ap (λ r. r ∷ others_of readers) (sym c.first-item.is) in
    absurd (h.none c.in-Ok.found (subst (λ l. IsFoundBy c.args.assumptions.now l c.args.text.now c.in-Ok.found) (sym whole) (inl c.in-Ok.ensures.has)))

pub read-returns-in-Ok-read_by-clause-every_error : goal.read-returns-in-Ok-read_by-clause-every_error
read-returns-in-Ok-read_by-clause-every_error t c = λ any h.
    let readers = c.args.readers.now in
    let whole = parts readers c.first-item.result c.in-len1-up.len_at_least ∙ ap (λ r. r ∷ others_of readers) (sym c.first-item.is) in
    absurd (h.none c.in-Ok-read_by.found (subst (λ l. IsFoundBy c.args.assumptions.now l c.args.text.now c.in-Ok-read_by.found) (sym whole)
    (other_has c.args.assumptions.now c.first-item.result (others_of readers) c.args.text.now c.in-Err.own c.in-Ok-read_by.found c.in-Err.ensures.every c.in-Ok-read_by.ensures.has)))

pub read_by-read-requires : goal.read_by-read-requires
read_by-read-requires t c = search rules
