use Rattle.cal_text.specs.Shape.{plain}
use Rattle.cal_text.specs.PlainForm.{HasPlainForm, IsPlainError, IsPlainOf}
use Rattle.cal_text.proofs.Parsed.{made, refused, unmatched}
use Rattle.cal_text.proofs.PlainShapes.{plain_shape}
use Rattle.cal_text.proofs.Positions.{stopped}
use Rattle.cal_text.proofs.TimeShapes.{nanosecond-below}
use Rattle.cal_text.proofs.plain.parse.Goals as goal

pub plain_from_numbers-requires : goal.plain_from_numbers-requires
plain_from_numbers-requires c =
    let has = c.in-Some.ensures.value in
    (has.has_date.form, nanosecond-below has.time c.in-Some.numbers.time has.has_time)

pub returns-in-Ok : goal.returns-in-Ok
returns-in-Ok c =
    let e = c.in-Ok.ensures in
    let is = made HasPlainForm IsPlainOf IsPlainError _ _ _ plain_shape.one c.in-Some.ensures.value (record { every = e.every; value = e.value; error = e.error }) in
    record { every = is.every; value = is.value; syntax_error = is.syntax_error; position = is.position; out_of_range = is.out_of_range }

pub returns-in-Err : goal.returns-in-Err
returns-in-Err c =
    let e = c.in-Err.ensures in
    let is = refused HasPlainForm IsPlainOf IsPlainError _ _ _ plain_shape.one c.in-Some.ensures.value (record { every = e.every; value = e.value; error = e.error }) in
    record { every = is.every; value = is.value; syntax_error = is.syntax_error; position = is.position; out_of_range = is.out_of_range }

pub overflow_sub-position : goal.overflow_sub-position
overflow_sub-position c = (stopped HasPlainForm plain plain_shape _ _ c.in-None.ensures.scans).within

pub returns-in-None : goal.returns-in-None
returns-in-None c =
    let e = c.unexpected.ensures in
    let is = unmatched HasPlainForm IsPlainOf IsPlainError _ _ c.unexpected.result (stopped HasPlainForm plain plain_shape _ _ c.in-None.ensures.scans) e.byte e.end e.form in
    record { every = is.every; value = is.value; syntax_error = is.syntax_error; position = is.position; out_of_range = is.out_of_range }
