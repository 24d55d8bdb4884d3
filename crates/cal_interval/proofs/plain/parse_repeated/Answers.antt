use Rattle.cal_text.specs.Shape.{Plain, End}
use Rattle.cal_text.proofs.Positions.{stopped_large}
use Rattle.cal_interval.specs.Form.{HasDateTimeInterval, HasRepeated}
use Rattle.cal_interval.specs.IntervalShape.{Repeated}
use Rattle.cal_interval.specs.Values.{IsDateTimeIntervalError, IsDateTimeIntervalOf, IsRepeatedError, IsRepeatedOf}
use Rattle.cal_interval.proofs.DateTimeShapes.{repeated_date_times_shape, fits}
use Rattle.cal_interval.proofs.Parsed.{made, refused, repeated_made, repeated_refused, unmatched}
use Rattle.cal_interval.proofs.plain.parse_repeated.Goals as goal

pub interval_from_numbers-requires : goal.interval_from_numbers-requires
interval_from_numbers-requires c = fits _ c.in-Some.numbers c.in-Some.ensures.value.has_interval

pub returns-in-Ok : goal.returns-in-Ok
returns-in-Ok c =
    let e = c.in-Ok.ensures in
    let is = made (HasRepeated HasDateTimeInterval) (IsRepeatedOf IsDateTimeIntervalOf) (IsRepeatedError IsDateTimeIntervalError) _ (c.in-Some.count, c.in-Some.numbers) _ repeated_date_times_shape.one c.in-Some.ensures.value (repeated_made IsDateTimeIntervalOf IsDateTimeIntervalError c.in-Some.count c.in-Some.numbers _ (record { every = e.every; value = e.value; error = e.error })) in
    record { every = is.every; value = is.value; syntax_error = is.syntax_error; position = is.position; out_of_range = is.out_of_range }

pub returns-in-Err : goal.returns-in-Err
returns-in-Err c =
    let e = c.in-Err.ensures in
    let is = refused (HasRepeated HasDateTimeInterval) (IsRepeatedOf IsDateTimeIntervalOf) (IsRepeatedError IsDateTimeIntervalError) _ (c.in-Some.count, c.in-Some.numbers) _ repeated_date_times_shape.one c.in-Some.ensures.value (repeated_refused IsDateTimeIntervalOf IsDateTimeIntervalError c.in-Some.count c.in-Some.numbers _ (record { every = e.every; value = e.value; error = e.error })) in
    record { every = is.every; value = is.value; syntax_error = is.syntax_error; position = is.position; out_of_range = is.out_of_range }

pub overflow_sub-position : goal.overflow_sub-position
overflow_sub-position c = (stopped_large (HasRepeated HasDateTimeInterval) (λ more. Repeated Plain more End) repeated_date_times_shape _ _ c.in-None.ensures.scans).within

pub returns-in-None : goal.returns-in-None
returns-in-None c =
    let e = c.unexpected.ensures in
    let is = unmatched (HasRepeated HasDateTimeInterval) (IsRepeatedOf IsDateTimeIntervalOf) (IsRepeatedError IsDateTimeIntervalError) _ _ c.unexpected.result (stopped_large (HasRepeated HasDateTimeInterval) (λ more. Repeated Plain more End) repeated_date_times_shape _ _ c.in-None.ensures.scans) e.byte e.end e.form in
    record { every = is.every; value = is.value; syntax_error = is.syntax_error; position = is.position; out_of_range = is.out_of_range }
