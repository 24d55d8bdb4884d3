use Rattle.std.proofs.Common.{◌<◌, Some, arith, length}
use Rattle.caldate_lines.specs.Calls.{most_reads}
use Rattle.caldate_run.proofs.Named.{named_weaker}
use Rattle.caldate_run.proofs.Takes.{never_fails}
use Rattle.caldate_run.proofs.program.run_named_once.Goals as goal

pub returns-clause-ended : goal.returns-clause-ended
returns-clause-ended g c =
    let short : length c.text_or.result.now < most_reads = omega (arith, c.text_or.type_inv) in
    let named = rw c.new-text.ensures at c.run_named.ensures.ended in (
      _,
      Some c.run_named.new.reader,
      named_weaker _ _ _ _ _ _ _ (λ own outcome h. (h.0, never_fails _ _ _ _ short h.1, h.2, h.3))
          (λ failed words h. (never_fails _ _ _ _ short h.0, h.1, h.2, h.3)) named,
    )
