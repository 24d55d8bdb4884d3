use Rattle.cal_text.proofs.Errors.{later, sooner}
use Rattle.cal_text.proofs.Results.{not_ok}
use Rattle.cal_interval.proofs.plain.from_numbers.start_and_period.Goals as goal

pub returns-in-Ok-period-clause-error : goal.returns-in-Ok-period-clause-error
returns-in-Ok-period-clause-error c why = later (λ x. absurd x) (c.in-Ok.ensures.error why) (c.in-Ok-period.ensures.error why)

pub returns-in-Err-period-clause-error : goal.returns-in-Err-period-clause-error
returns-in-Err-period-clause-error c why = later (λ x. (_, c.in-Ok.ensures.value)) (c.in-Ok.ensures.error why) (c.in-Err-period.ensures.error why)

pub returns-in-Err-clause-error : goal.returns-in-Err-clause-error
returns-in-Err-clause-error c why = sooner (λ h. not_ok _ _ (c.in-Err.ensures.every h.0 h.1)) (c.in-Err.ensures.error why)
