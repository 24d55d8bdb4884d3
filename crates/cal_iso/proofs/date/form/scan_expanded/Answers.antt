use Rattle.std.proofs.Common.{◌∙◌, subst, sym}
use Rattle.cal_text.specs.Shape.{Byte, UpTo}
use Rattle.cal_iso.specs.IsoShape.{AfterHyphen, Expanded}
use Rattle.cal_text.specs.DateForms.{IsPrintableYear}
use Rattle.cal_text.proofs.YearTexts.{written-cast}
use Rattle.cal_iso.proofs.DateReads.{expanded_fits, expanded_past, through}
use Rattle.cal_iso.proofs.date.form.scan_expanded.Goals as goal

pub returns-clause-scans : goal.returns-clause-scans
returns-clause-scans c =
    through Expanded AfterHyphen _ _ _ _
    (λ f. c.in_ok-front.ensures.scans (UpTo 2 (Byte 45 (AfterHyphen f))) ∙ c.scan_two_more-number.ensures.scans (Byte 45 (AfterHyphen f)) ∙ c.in_ok-byte.ensures.scans (AfterHyphen f))
    c.scan_after_hyphen.ensures.scans

pub returns-clause-value : goal.returns-clause-value
returns-clause-value c =
    expanded_past c.args.is_negative _ _ _ _ _ _ _ _ _ c.in_ok-front.ensures.value c.scan_two_more-number.ensures.value (written-cast _ (subst IsPrintableYear (sym c.signed_year.ensures) (expanded_fits c.args.is_negative _ c.scan_two_more-number.ensures.range)) ∙ c.signed_year.ensures)
    c.in_ok-byte.ensures.value c.scan_after_hyphen.ensures.value c.scan_after_hyphen.ensures.year
