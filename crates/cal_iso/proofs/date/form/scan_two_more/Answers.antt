use Rattle.cal_iso.proofs.DateReads.{one_left, two_left}
use Rattle.cal_iso.proofs.date.form.scan_two_more.Goals as goal

pub returns-in-Some-digit-clause-value : goal.returns-in-Some-digit-clause-value
returns-in-Some-digit-clause-value c = two_left _ _ _ _ _ _ c.in-Some.ensures.value c.in-Some-digit.ensures.value

pub returns-in-None-digit-clause-value : goal.returns-in-None-digit-clause-value
returns-in-None-digit-clause-value c = one_left _ _ _ _ _ c.in-Some.ensures.value c.in-None-digit.ensures.unchanged
