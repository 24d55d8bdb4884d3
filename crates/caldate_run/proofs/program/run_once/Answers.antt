use Rattle.std.proofs.Common.{ap, arith, length}
use Rattle.caldate_run.proofs.Takes.{never_fails}
use Rattle.caldate_run.proofs.program.run_once.Goals as goal

pub returns-clause-ended : goal.returns-clause-ended
returns-clause-ended g c = let run = rw c.new-text.ensures at c.run.ensures.ended in (_, _, run)

pub returns-clause-read : goal.returns-clause-read
returns-clause-read g c = never_fails _ _ _ _ (omega (arith, ap length c.new-text.ensures, c.text_or.type_inv)) c.run.ensures.reads
