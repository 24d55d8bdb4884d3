use Rattle.caldate_answers.proofs.DateShapes.{put_year_last}
use Rattle.caldate_answers.proofs.reading.date.scan_year_last.Goals as goal

pub returns-clause-value : goal.returns-clause-value
returns-clause-value c =
    put_year_last _ _ _ _ _ _ _ _ _ _ c.in_ok-first.ensures.value c.in_ok-separator.ensures.value c.in_ok-second.ensures.value c.in_ok-byte.ensures.value c.in_ok-year.ensures.value
    c.in_ok-end.ensures.value
