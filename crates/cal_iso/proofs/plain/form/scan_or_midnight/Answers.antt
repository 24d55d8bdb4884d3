use Rattle.std.proofs.Common.{◌+◌, ◌∙◌}
use Rattle.cal_text.specs.Shape.{Branch, End}
use Rattle.cal_iso.specs.IsoShape.{Clock, OrMidnight, any_length}
use Rattle.cal_iso.proofs.MomentReads.{to_end}
use Rattle.cal_iso.proofs.plain.form.scan_or_midnight.Goals as goal

pub returns-in-Some-clause-scans : goal.returns-in-Some-clause-scans
returns-in-Some-clause-scans c =
    to_end OrMidnight Clock _ _ _ _ (λ k. let clock = Clock (k + any_length) End in c.in-Some.ensures.branches clock (Branch 116 0 clock (Branch 32 0 clock End)))
    c.scan_clock_to_end.ensures.scans

pub returns-in-Some-byte-clause-scans : goal.returns-in-Some-byte-clause-scans
returns-in-Some-byte-clause-scans c =
    to_end OrMidnight Clock _ _ _ _
    (λ k.
    let clock = Clock (k + any_length) End in
    let spaced = Branch 32 0 clock End in
    c.in-None.ensures.branches clock (Branch 116 0 clock spaced) ∙ c.in-Some-byte.ensures.branches clock spaced)
    c.scan_clock_to_end-in-Some-byte.ensures.scans

pub returns-in-Some-byte-2-clause-scans : goal.returns-in-Some-byte-2-clause-scans
returns-in-Some-byte-2-clause-scans c =
    to_end OrMidnight Clock _ _ _ _
    (λ k.
    let clock = Clock (k + any_length) End in
    let spaced = Branch 32 0 clock End in
    c.in-None.ensures.branches clock (Branch 116 0 clock spaced) ∙ c.in-None-byte.ensures.branches clock spaced ∙ c.in-Some-byte-2.ensures.branches clock End)
    c.scan_clock_to_end-in-Some-byte-2.ensures.scans
