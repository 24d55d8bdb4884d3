use Rattle.caldate_answers.proofs.reading.yearless.+last_until.Given as goal

abbrev pub decreases-last_until : goal.decreases-last_until
decreases-last_until l = l.more
