use Rattle.caldate_answers.proofs.reading.yearless.+first_after.Given as goal

abbrev pub decreases-first_after : goal.decreases-first_after
decreases-first_after l = l.more
