use Rattle.cal_text.proofs.ReadDigits.{one_digit, one_more}
use Rattle.caldate_answers.proofs.reading.digits.scan_two_digits.Goals as goal

pub returns-clause-value : goal.returns-clause-value
returns-clause-value c =
    let tens = c.in_ok-tens.ensures.value in
    let ones = c.in_ok-ones.ensures.value in
    one_more _ _ 1 _ _ _ (one_digit _ _ _ tens.0 tens.1) ones.0 ones.1
