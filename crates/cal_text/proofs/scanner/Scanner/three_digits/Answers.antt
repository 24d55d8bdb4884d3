use Rattle.cal_text.proofs.ReadDigits.{one_more}
use Rattle.cal_text.proofs.scanner.Scanner.three_digits.Goals as goal

pub returns-clause-value : goal.returns-clause-value
returns-clause-value c =
    let b = c.in_ok-ones.ensures.value in
    one_more _ _ _ _ _ _ c.in_ok-tens.ensures.value b.0 b.1
