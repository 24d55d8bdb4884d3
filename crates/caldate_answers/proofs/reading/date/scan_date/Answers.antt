use Rattle.std.proofs.Common.{subst, sym}
use Rattle.caldate_answers.specs.Readings.{HasDate}
use Rattle.caldate_answers.proofs.DateShapes.{put_basic}
use Rattle.caldate_answers.proofs.reading.date.scan_date.Goals as goal

pub returns-in_ok-end-in-Basic-clause-value : goal.returns-in_ok-end-in-Basic-clause-value
returns-in_ok-end-in-Basic-clause-value c =
    subst (λ order. HasDate order c.args.scanner.now.rest.now (c.in_ok-year-in-Basic.year, c.in_ok-month-in-Basic.month, c.in_ok-day-in-Basic.day)) (sym c.in-Basic.is)
    (put_basic _ _ _ _ _ _ _ c.in_ok-year-in-Basic.ensures.value c.in_ok-month-in-Basic.ensures.value c.in_ok-day-in-Basic.ensures.value c.in_ok-end-in-Basic.ensures.value)
