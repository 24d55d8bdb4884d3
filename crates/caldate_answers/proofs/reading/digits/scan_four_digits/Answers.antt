use Rattle.cal_text.proofs.YearDigits.{two_and_two}
use Rattle.caldate_answers.proofs.reading.digits.scan_four_digits.Goals as goal

pub returns-clause-value : goal.returns-clause-value
returns-clause-value c = rw (c.from.ensures, c.from-2.ensures) (two_and_two _ _ _ _ _ c.in_ok-front.ensures.value c.in_ok-back.ensures.value)
