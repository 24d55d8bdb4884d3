use Rattle.std.proofs.Common.{Ok, ◌∙◌, ap, sym}
use Rattle.cal_text.specs.declared.any.DateOrMoment.TheVariants.{Moment}
use Rattle.cal_text.specs.declared.any.MomentForm.TheVariants.{Rfc3339}
use Rattle.cal_text.proofs.Results.{not_ok, one}
use Rattle.caldate_answers.proofs.reading.iso.read_iso_moment.Goals as goal

pub returns-in-Ok-clause-every : goal.returns-in-Ok-clause-every
returns-in-Ok-clause-every c found (v, text, same) = ap (λ moment. Ok (Moment Rfc3339 moment)) (one _ _ (c.in-Ok.ensures.every v text)) ∙ ap Ok (sym same)

pub returns-in-Err-clause-every : goal.returns-in-Err-clause-every
returns-in-Err-clause-every c found (v, text, same) = absurd (not_ok _ _ (c.in-Err.ensures.every v text))

pub returns-in-Err-clause-form : goal.returns-in-Err-clause-form
returns-in-Err-clause-form c =
    let syntax = c.in-Err.ensures.syntax_error in
    (λ e has. syntax.0 e has.0 has.1, λ none. syntax.1 (λ v has. none (v, has)))
