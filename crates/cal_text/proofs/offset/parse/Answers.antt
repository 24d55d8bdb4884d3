use Rattle.std.proofs.Common.{Ok, Err}
use Rattle.cal_text.specs.Shape.{offset}
use Rattle.cal_text.specs.OffsetForm.{HasOffsetForm, IsOffsetError, IsOffsetOf}
use Rattle.cal_text.proofs.OffsetDateTimeReads.{offset_errors}
use Rattle.cal_text.proofs.OffsetShapes.{offset_shape}
use Rattle.cal_text.proofs.Parsed.{made, refused, unmatched}
use Rattle.cal_text.proofs.Positions.{stopped}
use Rattle.cal_text.proofs.offset.parse.Goals as goal

pub returns-in-Ok : goal.returns-in-Ok
returns-in-Ok c =
    let e = c.in-Ok.ensures in
    let is = made HasOffsetForm IsOffsetOf IsOffsetError _ _ _ offset_shape.one c.in-Some.ensures.value (record { every = e.every; value = e.value; error = offset_errors c.in-Some.numbers (Ok c.in-Ok.offset) e.hour e.minute e.second e.error_kind }) in
    record { every = is.every; value = is.value; syntax_error = is.syntax_error; position = is.position; out_of_range = is.out_of_range }

pub returns-in-Err : goal.returns-in-Err
returns-in-Err c =
    let e = c.in-Err.ensures in
    let is = refused HasOffsetForm IsOffsetOf IsOffsetError _ _ _ offset_shape.one c.in-Some.ensures.value (record { every = e.every; value = e.value; error = offset_errors c.in-Some.numbers (Err c.in-Err.error) e.hour e.minute e.second e.error_kind }) in
    record { every = is.every; value = is.value; syntax_error = is.syntax_error; position = is.position; out_of_range = is.out_of_range }

pub overflow_sub-position : goal.overflow_sub-position
overflow_sub-position c = (stopped HasOffsetForm offset offset_shape _ _ c.in-None.ensures.scans).within

pub returns-in-None : goal.returns-in-None
returns-in-None c =
    let e = c.unexpected.ensures in
    let is = unmatched HasOffsetForm IsOffsetOf IsOffsetError _ _ c.unexpected.result (stopped HasOffsetForm offset offset_shape _ _ c.in-None.ensures.scans) e.byte e.end e.form in
    record { every = is.every; value = is.value; syntax_error = is.syntax_error; position = is.position; out_of_range = is.out_of_range }
