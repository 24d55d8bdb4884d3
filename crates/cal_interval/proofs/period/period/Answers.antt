use Rattle.cal_duration.proofs.Ranges.{one_period}
use Rattle.cal_interval.proofs.period.period.Goals as goal

pub returns-in-Ok-clause-error : goal.returns-in-Ok-clause-error
returns-in-Ok-clause-error c why = (λ x. absurd x, λ h. one_period.either _ _ h.0 c.in-Ok.ensures.value h.1)

pub returns-in-Err-clause-every : goal.returns-in-Err-clause-every
returns-in-Err-clause-every c q is = absurd (one_period.either _ q _ is c.in-Err.ensures.error)
