use Rattle.std.proofs.Common.{arith}
use Rattle.cal_text.proofs.YearTexts.{plain-cast}
use Rattle.cal_iso.proofs.DateReads.{basic_past, extended_past}
use Rattle.cal_iso.proofs.date.form.scan_four_digit_year.Goals as goal

pub returns-in-Some-clause-value : goal.returns-in-Some-clause-value
returns-in-Some-clause-value c =
    extended_past _ _ _ _ _ _ _ c.in_ok-number.ensures.value (plain-cast _ (omega (arith, c.in_ok-number.ensures.range))) c.in-Some.ensures.value c.scan_after_hyphen.ensures.value c.scan_after_hyphen.ensures.year

pub returns-in-None-clause-value : goal.returns-in-None-clause-value
returns-in-None-clause-value c =
    basic_past _ _ _ _ _ _ _ c.in_ok-number.ensures.value (plain-cast _ (omega (arith, c.in_ok-number.ensures.range))) c.in-None.ensures.unchanged c.scan_basic_rest.ensures.value c.scan_basic_rest.ensures.year
