use Rattle.std.proofs.Common.{◌+◌, ◌∙◌}
use Rattle.cal_text.specs.Shape.{Branch, End}
use Rattle.cal_iso.specs.IsoShape.{Clock, Time, any_length}
use Rattle.cal_iso.proofs.MomentReads.{to_end}
use Rattle.cal_iso.proofs.time.form.scan_whole_time.Goals as goal

pub returns-in-Some-clause-scans : goal.returns-in-Some-clause-scans
returns-in-Some-clause-scans c =
    to_end Time Clock _ _ _ _ (λ k. let clock = Clock (k + any_length) End in c.in-Some.ensures.branches clock (Branch 116 0 clock clock)) c.scan_clock_to_end.ensures.scans

pub returns-in-Some-byte-clause-scans : goal.returns-in-Some-byte-clause-scans
returns-in-Some-byte-clause-scans c =
    to_end Time Clock _ _ _ _
    (λ k. let clock = Clock (k + any_length) End in c.in-None.ensures.branches clock (Branch 116 0 clock clock) ∙ c.in-Some-byte.ensures.branches clock clock)
    c.scan_clock_to_end-in-Some-byte.ensures.scans

pub returns-in-None-byte-clause-scans : goal.returns-in-None-byte-clause-scans
returns-in-None-byte-clause-scans c =
    to_end Time Clock _ _ _ _
    (λ k. let clock = Clock (k + any_length) End in c.in-None.ensures.branches clock (Branch 116 0 clock clock) ∙ c.in-None-byte.ensures.branches clock clock)
    c.scan_clock_to_end-in-None-byte.ensures.scans
