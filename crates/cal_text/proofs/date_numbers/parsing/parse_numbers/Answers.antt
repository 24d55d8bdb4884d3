use Rattle.std.proofs.Common.{ap, refl, Ok}
use Rattle.cal_text.specs.DateForms.{HasForm}
use Rattle.cal_text.specs.Shape.{date}
use Rattle.cal_text.specs.declared.date_numbers.DateNumbers.TheVariants.{Calendar}
use Rattle.cal_text.proofs.FormReads.{put_form, month_and_day}
use Rattle.cal_text.proofs.FormShapes.{date_shape}
use Rattle.cal_text.proofs.Parts.{put_whole}
use Rattle.cal_text.proofs.YearDigits.{put_plain}
use Rattle.cal_text.proofs.Positions.{stopped}
use Rattle.cal_text.proofs.date_numbers.parsing.parse_numbers.Goals as goal

-- a date of ten bytes
pub returns-in-Some-end-clause-value : goal.returns-in-Some-end-clause-value
returns-in-Some-end-clause-value c =
    let number = c.in-Some.ensures in
    let numbers = c.in-Some-two_numbers.ensures.value in
    let year = put_plain _ _ _ _ number.range number.value numbers.2 in
    put_whole HasForm _ _ _ (put_form _ (Calendar _ _ _) _ _ _ year.1 (year.0, numbers.0, numbers.1) refl (month_and_day _ _ _)) c.in-Some-end.ensures.value

pub returns-in-Some-end-clause-every : goal.returns-in-Some-end-clause-every
returns-in-Some-end-clause-every c other has = ap Ok (date_shape.one _ _ _ (returns-in-Some-end-clause-value c) has)

-- any other
pub returns-in-Some-scan_whole_date-clause-every : goal.returns-in-Some-scan_whole_date-clause-every
returns-in-Some-scan_whole_date-clause-every c other has = ap Ok (date_shape.one _ _ _ c.in-Some-scan_whole_date.ensures.value has)

pub overflow_sub-result : goal.overflow_sub-result
overflow_sub-result c = (stopped HasForm date date_shape _ _ c.in-None.ensures.scans).within

pub returns-in-None-clause-every : goal.returns-in-None-clause-every
returns-in-None-clause-every c other has = absurd ((stopped HasForm date date_shape _ _ c.in-None.ensures.scans).none other has)

pub returns-in-None-clause-position : goal.returns-in-None-clause-position
returns-in-None-clause-position c = (stopped HasForm date date_shape _ _ c.in-None.ensures.scans).position
