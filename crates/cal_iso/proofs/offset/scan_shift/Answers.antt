use Rattle.std.proofs.Common.{◌∙◌}
use Rattle.cal_text.specs.Shape.{Digits, End}
use Rattle.cal_iso.specs.IsoShape.{AfterHour}
use Rattle.cal_iso.proofs.MomentReads.{put_shift}
use Rattle.cal_iso.proofs.offset.scan_shift.Goals as goal

pub returns-clause-value : goal.returns-clause-value
returns-clause-value c =
    put_shift _ _ _ _ _ _ _ _ _ c.in_ok-is_negative.ensures.value c.in_ok-hours.ensures.value c.in_ok-rest.ensures.value c.in_ok-end.ensures.value

pub returns-in_err-rest-clause-scans : goal.returns-in_err-rest-clause-scans
returns-in_err-rest-clause-scans c =
    let rest = AfterHour (λ f. f) End in
    rw c.from_residual-in_err-rest.ensures (c.in_ok-is_negative.ensures.scans (Digits 2 rest) ∙ c.in_ok-hours.ensures.scans rest ∙ c.in_err-rest.ensures.scans 0 End)

pub returns-in_err-end-clause-scans : goal.returns-in_err-end-clause-scans
returns-in_err-end-clause-scans c =
    let rest = AfterHour (λ f. f) End in
    rw c.from_residual-in_err-end.ensures
    (c.in_ok-is_negative.ensures.scans (Digits 2 rest) ∙ c.in_ok-hours.ensures.scans rest ∙ c.in_ok-rest.ensures.scans 0 End ∙ c.in_err-end.ensures.scans)

pub returns-clause-scans : goal.returns-clause-scans
returns-clause-scans c =
    let rest = AfterHour (λ f. f) End in
    c.in_ok-is_negative.ensures.scans (Digits 2 rest) ∙ c.in_ok-hours.ensures.scans rest ∙ c.in_ok-rest.ensures.scans 0 End ∙ c.in_ok-end.ensures.scans
