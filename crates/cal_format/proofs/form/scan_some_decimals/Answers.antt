use Rattle.cal_format.proofs.FormDecimals.{decimals-scanned}
use Rattle.cal_format.proofs.form.scan_some_decimals.Goals as goal

pub returns-clause-value : goal.returns-clause-value
returns-clause-value c = rw c.from.ensures (decimals-scanned c.in_ok-digit.digit _ _ _ _ c.in_ok-digit.ensures.value c.in_ok-others.ensures.value).1

pub returns-clause-range : goal.returns-clause-range
returns-clause-range c = rw c.from.ensures (decimals-scanned c.in_ok-digit.digit _ _ _ _ c.in_ok-digit.ensures.value c.in_ok-others.ensures.value).0
