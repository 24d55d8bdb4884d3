use Rattle.caldate_answers.proofs.WholeNumbers.{put_number}
use Rattle.caldate_answers.proofs.reading.number.scan_positive_number.Goals as goal

pub returns-clause-value : goal.returns-clause-value
returns-clause-value c = put_number c.in_ok-first.first _ _ _ _ c.in_ok-first.ensures.value (rw c.from.ensures at c.scan_more_digits-number.ensures.value) c.in_ok-end.ensures.value
