use Rattle.cal_text.specs.Shape.{End}
use Rattle.cal_text.specs.Parsing.{IsDateError}
use Rattle.cal_text.proofs.Parsed.{made, refused, unmatched}
use Rattle.cal_text.proofs.Positions.{stopped}
use Rattle.cal_iso.specs.DateForm.{HasIsoDate, IsDay}
use Rattle.cal_iso.specs.IsoShape.{Date}
use Rattle.cal_iso.proofs.DateReads.{fits}
use Rattle.cal_iso.proofs.DateShapes.{date_shape}
use Rattle.cal_iso.proofs.date.parse.Goals as goal

pub date_from_numbers-requires : goal.date_from_numbers-requires
date_from_numbers-requires c = fits _ c.in-Some.numbers c.in-Some.ensures.value

pub returns-in-Ok : goal.returns-in-Ok
returns-in-Ok c =
    let e = c.in-Ok.ensures in
    let is = made HasIsoDate IsDay IsDateError _ _ _ date_shape.one c.in-Some.ensures.value (record { every = λ n h. e.every n h.0 h.1; value = e.value; error = e.error }) in
    record { every = is.every; value = is.value; syntax_error = is.syntax_error; position = is.position; out_of_range = is.out_of_range }

pub returns-in-Err : goal.returns-in-Err
returns-in-Err c =
    let e = c.in-Err.ensures in
    let is = refused HasIsoDate IsDay IsDateError _ _ _ date_shape.one c.in-Some.ensures.value (record { every = λ n h. e.every n h.0 h.1; value = e.value; error = e.error }) in
    record { every = is.every; value = is.value; syntax_error = is.syntax_error; position = is.position; out_of_range = is.out_of_range }

pub overflow_sub-position : goal.overflow_sub-position
overflow_sub-position c = (stopped HasIsoDate (Date End) date_shape _ _ c.in-None.ensures.scans).within

pub returns-in-None : goal.returns-in-None
returns-in-None c =
    let e = c.unexpected.ensures in
    let is = unmatched HasIsoDate IsDay IsDateError _ _ c.unexpected.result (stopped HasIsoDate (Date End) date_shape _ _ c.in-None.ensures.scans) e.byte e.end e.form in
    record { every = is.every; value = is.value; syntax_error = is.syntax_error; position = is.position; out_of_range = is.out_of_range }
