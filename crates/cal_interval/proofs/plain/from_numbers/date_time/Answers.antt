use Rattle.std.proofs.Common.{◌∙◌, ap, refl, sym}
use Rattle.cal_interval.specs.declared.error.IntervalComponent.TheVariants.{End}
use Rattle.cal_interval.proofs.plain.from_numbers.date_time.Goals as goal

pub returns-in-Err-clause-error : goal.returns-in-Err-clause-error
returns-in-Err-clause-error c why =
    let error = c.in-Err.ensures.error in
    (λ e. (c.in-Err.error, (error c.in-Err.error).0 refl, sym e), λ h. ap (λ x. End x) ((error h.0).1 h.1) ∙ sym h.2)
