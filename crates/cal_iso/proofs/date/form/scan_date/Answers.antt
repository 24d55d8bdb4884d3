use Rattle.std.proofs.Common.{◌∙◌}
use Rattle.cal_text.specs.Shape.{Branch}
use Rattle.cal_iso.specs.IsoShape.{Date, Expanded, FourDigits}
use Rattle.cal_iso.proofs.DateReads.{through}
use Rattle.cal_iso.proofs.date.form.scan_date.Goals as goal

pub returns-in-Some-clause-scans : goal.returns-in-Some-clause-scans
returns-in-Some-clause-scans c = through Date Expanded _ _ _ _ (λ f. c.in-Some.ensures.branches (Expanded f) (Branch 45 0 (Expanded f) (FourDigits f))) c.scan_expanded.ensures.scans

pub returns-in-Some-byte-clause-scans : goal.returns-in-Some-byte-clause-scans
returns-in-Some-byte-clause-scans c =
    through Date Expanded _ _ _ _
    (λ f. c.in-None.ensures.branches (Expanded f) (Branch 45 0 (Expanded f) (FourDigits f)) ∙ c.in-Some-byte.ensures.branches (Expanded f) (FourDigits f))
    c.scan_expanded-in-Some-byte.ensures.scans

pub returns-in-None-byte-clause-scans : goal.returns-in-None-byte-clause-scans
returns-in-None-byte-clause-scans c =
    through Date FourDigits _ _ _ _
    (λ f. c.in-None.ensures.branches (Expanded f) (Branch 45 0 (Expanded f) (FourDigits f)) ∙ c.in-None-byte.ensures.branches (Expanded f) (FourDigits f))
    c.scan_four_digit_year.ensures.scans
