use Rattle.cal_text.proofs.DigitParts.{reads-scans}
use Rattle.cal_text.proofs.ReadDigits.{at_once}
use Rattle.cal_text.proofs.scanner.Scanner.two_digits.Goals as goal

pub returns-in-Some-clause-scans : goal.returns-in-Some-clause-scans
returns-in-Some-clause-scans c f = reads-scans 2 c.in-Some.number f _ _ (at_once _ _ c.in-len2-up.len_at_least c.in-Some.ensures)
