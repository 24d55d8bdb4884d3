use Rattle.cal_text.proofs.ReadDigits.{one_digit}
use Rattle.cal_format.proofs.form.scan_one_digit.Goals as goal

pub returns-clause-value : goal.returns-clause-value
returns-clause-value c =
    let digit = c.in_ok-number.ensures.value in
    rw c.from.ensures (one_digit c.in_ok-number.number _ _ digit.0 digit.1)
