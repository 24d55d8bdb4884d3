use Rattle.cal_text.proofs.ReadDigits.{zero_first}
use Rattle.cal_text.proofs.year.scan_zero_and_three.Goals as goal

pub returns-clause-value : goal.returns-clause-value
returns-clause-value c = zero_first _ _ _ _ _ c.in_ok-byte.ensures.value c.in_ok-number.ensures.value
