use Rattle.cal_text.specs.Shape.{offset_date_time}
use Rattle.cal_text.specs.OffsetDateTimeForm.{HasOffsetDateTimeForm, IsOffsetDateTimeError, IsOffsetDateTimeOf}
use Rattle.cal_text.proofs.OffsetDateTimeShapes.{moment_shape}
use Rattle.cal_text.proofs.Parsed.{made, refused, unmatched}
use Rattle.cal_text.proofs.Positions.{stopped}
use Rattle.cal_text.proofs.TimeShapes.{nanosecond-below}
use Rattle.cal_text.proofs.offset_date_time.parse.Goals as goal

pub moment_from_numbers-requires : goal.moment_from_numbers-requires
moment_from_numbers-requires c =
    let has = c.in-Some.ensures.value.has_local in
    (has.has_date.form, nanosecond-below has.time c.in-Some.numbers.local.time has.has_time)

pub returns-in-Ok : goal.returns-in-Ok
returns-in-Ok c =
    let e = c.in-Ok.ensures in
    let is = made HasOffsetDateTimeForm IsOffsetDateTimeOf IsOffsetDateTimeError _ _ _ moment_shape.one c.in-Some.ensures.value (record { every = e.every; value = e.value; error = e.error }) in
    record { every = is.every; value = is.value; syntax_error = is.syntax_error; position = is.position; out_of_range = is.out_of_range }

pub returns-in-Err : goal.returns-in-Err
returns-in-Err c =
    let e = c.in-Err.ensures in
    let is = refused HasOffsetDateTimeForm IsOffsetDateTimeOf IsOffsetDateTimeError _ _ _ moment_shape.one c.in-Some.ensures.value (record { every = e.every; value = e.value; error = e.error }) in
    record { every = is.every; value = is.value; syntax_error = is.syntax_error; position = is.position; out_of_range = is.out_of_range }

pub overflow_sub-position : goal.overflow_sub-position
overflow_sub-position c = (stopped HasOffsetDateTimeForm offset_date_time moment_shape _ _ c.in-None.ensures.scans).within

pub returns-in-None : goal.returns-in-None
returns-in-None c =
    let e = c.unexpected.ensures in
    let is = unmatched HasOffsetDateTimeForm IsOffsetDateTimeOf IsOffsetDateTimeError _ _ c.unexpected.result (stopped HasOffsetDateTimeForm offset_date_time moment_shape _ _ c.in-None.ensures.scans) e.byte e.end e.form in
    record { every = is.every; value = is.value; syntax_error = is.syntax_error; position = is.position; out_of_range = is.out_of_range }
