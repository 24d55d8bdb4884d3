use Rattle.cal_iso.proofs.ClockReads.{ZerosPast}
use Rattle.cal_iso.proofs.fraction.scan_zeros.Given as goal

abbrev pub invariant-loop : goal.invariant-loop
invariant-loop l = ZerosPast l.counter l.fn.scanner.rest.now l.scanner.rest.now
