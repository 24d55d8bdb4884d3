use Rattle.cal_text.specs.Shape.{Plain, End}
use Rattle.cal_text.proofs.Positions.{stopped_large}
use Rattle.cal_interval.specs.Form.{HasDateTimeInterval}
use Rattle.cal_interval.specs.IntervalShape.{Interval}
use Rattle.cal_interval.specs.Values.{IsDateTimeIntervalError, IsDateTimeIntervalOf}
use Rattle.cal_interval.proofs.DateTimeShapes.{date_time_interval_shape, fits}
use Rattle.cal_interval.proofs.Parsed.{made, refused, unmatched}
use Rattle.cal_interval.proofs.plain.parse.Goals as goal

pub interval_from_numbers-requires : goal.interval_from_numbers-requires
interval_from_numbers-requires c = fits _ c.in-Some.numbers c.in-Some.ensures.value

pub returns-in-Ok : goal.returns-in-Ok
returns-in-Ok c =
    let e = c.in-Ok.ensures in
    let is = made HasDateTimeInterval IsDateTimeIntervalOf IsDateTimeIntervalError _ c.in-Some.numbers _ date_time_interval_shape.one c.in-Some.ensures.value (record { every = e.every; value = e.value; error = e.error }) in
    record { every = is.every; value = is.value; syntax_error = is.syntax_error; position = is.position; out_of_range = is.out_of_range }

pub returns-in-Err : goal.returns-in-Err
returns-in-Err c =
    let e = c.in-Err.ensures in
    let is = refused HasDateTimeInterval IsDateTimeIntervalOf IsDateTimeIntervalError _ c.in-Some.numbers _ date_time_interval_shape.one c.in-Some.ensures.value (record { every = e.every; value = e.value; error = e.error }) in
    record { every = is.every; value = is.value; syntax_error = is.syntax_error; position = is.position; out_of_range = is.out_of_range }

pub overflow_sub-position : goal.overflow_sub-position
overflow_sub-position c = (stopped_large HasDateTimeInterval (λ more. Interval Plain more End) date_time_interval_shape _ _ c.in-None.ensures.scans).within

pub returns-in-None : goal.returns-in-None
returns-in-None c =
    let e = c.unexpected.ensures in
    let is = unmatched HasDateTimeInterval IsDateTimeIntervalOf IsDateTimeIntervalError _ _ c.unexpected.result (stopped_large HasDateTimeInterval (λ more. Interval Plain more End) date_time_interval_shape _ _ c.in-None.ensures.scans) e.byte e.end e.form in
    record { every = is.every; value = is.value; syntax_error = is.syntax_error; position = is.position; out_of_range = is.out_of_range }
