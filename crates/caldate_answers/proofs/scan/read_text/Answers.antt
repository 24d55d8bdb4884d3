use Rattle.std.proofs.Common.{◌∙◌, inl, inr, sym}
use Rattle.caldate_answers.proofs.Scans.{no_text}
use Rattle.caldate_answers.proofs.scan.read_text.Goals as goal

pub returns-in-Ok : goal.returns-in-Ok
returns-in-Ok c = ((c.requires, inl (c.in-Ok.found, c.in-Ok.ensures.has)), c.in-Ok.ensures.has)

pub returns-then-has_form : goal.returns-then-has_form
returns-then-has_form c =
    let error = c.in-Err.ensures.error in
    ((c.requires, inr (c.in-Err.why, error, sym c.has_form.ensures ∙ c.if-has_form.true)), error)

pub returns-else-has_form : goal.returns-else-has_form
returns-else-has_form c =
    no_text c.args.filter.now c.args.bytes.now c.in-Err.why c.in-Err.ensures.every c.in-Err.ensures.every_error (sym c.has_form.ensures ∙ c.if-has_form.false)
