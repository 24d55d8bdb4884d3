use Rattle.cal_duration.proofs.PartsReads.{PartsKept}
use Rattle.cal_duration.proofs.form.scan_parts.Given as goal

abbrev pub invariant-loop-i : goal.invariant-loop-i
invariant-loop-i l = PartsKept l.fn.letters l.numbers l.fn.first l.i l.number l.fn.scanner.rest.now l.scanner.rest.now
