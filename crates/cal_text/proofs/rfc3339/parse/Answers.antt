use Rattle.std.proofs.Common.{Result, Ok, Err}
use Rattle.cal_time.specs.DateErrors.{day_out_of_range}
use Rattle.cal_time.specs.Month.{month_out_of_range}
use Rattle.cal_time.specs.Time.{hour_out_of_range, minute_out_of_range, second_out_of_range}
use Rattle.cal_time.specs.UtcOffset.{offset_hour_out_of_range, offset_minute_out_of_range}
use Rattle.cal_time.specs.declared.error.ComponentRange.{ComponentRange}
use Rattle.cal_datetime.specs.OffsetDateTime.{LocalAndOffset}
use Rattle.cal_text.specs.Rfc3339Form.{HasMomentForm, IsMomentError, IsMomentOf}
use Rattle.cal_text.specs.Shape.{moment}
use Rattle.cal_text.proofs.Errors.{all, last, more}
use Rattle.cal_text.proofs.MomentShapes.{moment_shapes}
use Rattle.cal_text.proofs.Parsed.{made, refused, unmatched}
use Rattle.cal_text.proofs.Positions.{stopped_large}
use Rattle.cal_text.proofs.rfc3339.parse.Goals as goal

pub returns-in-Ok : goal.returns-in-Ok
returns-in-Ok c =
    let e = c.in-Ok.ensures in
    let r : Result LocalAndOffset ComponentRange = Ok c.in-Ok.moment in
    let errors = all r (more r month_out_of_range _ e.month (more r day_out_of_range _ e.day (more r hour_out_of_range _ e.hour (more r minute_out_of_range _ e.minute
    (more r second_out_of_range _ e.second (more r offset_hour_out_of_range _ e.offset_hour (last r offset_minute_out_of_range _ e.offset_minute))))))) e.error_kind in
    let is = made HasMomentForm IsMomentOf IsMomentError _ _ _ moment_shapes.one c.in-Some.ensures.value (record { every = e.every; value = e.value; error = errors }) in
    record { every = is.every; value = is.value; syntax_error = is.syntax_error; position = is.position; out_of_range = is.out_of_range }

pub returns-in-Err : goal.returns-in-Err
returns-in-Err c =
    let e = c.in-Err.ensures in
    let r : Result LocalAndOffset ComponentRange = Err c.in-Err.error in
    let errors = all r (more r month_out_of_range _ e.month (more r day_out_of_range _ e.day (more r hour_out_of_range _ e.hour (more r minute_out_of_range _ e.minute
    (more r second_out_of_range _ e.second (more r offset_hour_out_of_range _ e.offset_hour (last r offset_minute_out_of_range _ e.offset_minute))))))) e.error_kind in
    let is = refused HasMomentForm IsMomentOf IsMomentError _ _ _ moment_shapes.one c.in-Some.ensures.value (record { every = e.every; value = e.value; error = errors }) in
    record { every = is.every; value = is.value; syntax_error = is.syntax_error; position = is.position; out_of_range = is.out_of_range }

pub overflow_sub-position : goal.overflow_sub-position
overflow_sub-position c = (stopped_large HasMomentForm moment moment_shapes c.args.text.now _ c.in-None.ensures.scans).within

pub returns-in-None : goal.returns-in-None
returns-in-None c =
    let e = c.unexpected.ensures in
    let is = unmatched HasMomentForm IsMomentOf IsMomentError _ _ c.unexpected.result (stopped_large HasMomentForm moment moment_shapes c.args.text.now _ c.in-None.ensures.scans) e.byte e.end e.form in
    record { every = is.every; value = is.value; syntax_error = is.syntax_error; position = is.position; out_of_range = is.out_of_range }
