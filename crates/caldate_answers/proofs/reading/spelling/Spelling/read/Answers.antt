use Rattle.std.proofs.Common.{◌∙◌, ap, Err, Some, subst, sym}
use Rattle.std.specs.Prelude.{IsSomeAnd}
use Rattle.cal_text.specs.AnyForm.{IsTextOf}
use Rattle.caldate_answers.specs.Readers.{IsUnspelled}
use Rattle.caldate_answers.proofs.Lacks.{is_unspelled, unspelled_only}
use Rattle.caldate_answers.proofs.reading.spelling.Spelling.read.Goals as goal

pub returns-in-Ok-clause-every_error : goal.returns-in-Ok-clause-every_error
returns-in-Ok-clause-every_error c = λ any none h.
    let full = sym c.full.ensures ∙ c.in-Some.is ∙ ap Some (sym c.as_bytes.ensures) in
    absurd (none c.in-Ok.found (subst (λ o. IsSomeAnd o (λ full. IsTextOf full c.in-Ok.found)) (sym full) c.in-Ok.ensures.value))

pub returns-in-Err-clause-every_error : goal.returns-in-Err-clause-every_error
returns-in-Err-clause-every_error c = λ any none h.
    let full = sym c.full.ensures ∙ c.in-Some.is ∙ ap Some (sym c.as_bytes.ensures) in
    ap Err c.brief_reason_of.ensures ∙ unspelled_only c.args.self c.args.text.now c.as_bytes.result.now c.in-Err.error any full c.in-Err.ensures.out_of_range h

pub returns-in-Err-clause-error : goal.returns-in-Err-clause-error
returns-in-Err-clause-error c =
    let full = sym c.full.ensures ∙ c.in-Some.is ∙ ap Some (sym c.as_bytes.ensures) in
    subst (IsUnspelled c.args.self c.args.text.now) (sym c.brief_reason_of.ensures)
    (is_unspelled c.args.self c.args.text.now c.as_bytes.result.now c.in-Err.error full c.in-Err.ensures.out_of_range)
