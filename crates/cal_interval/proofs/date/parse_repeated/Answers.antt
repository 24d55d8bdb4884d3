use Rattle.cal_text.specs.Shape.{Date, End}
use Rattle.cal_text.proofs.Positions.{stopped_large}
use Rattle.cal_interval.specs.Form.{HasDateInterval, HasRepeated}
use Rattle.cal_interval.specs.IntervalShape.{Repeated}
use Rattle.cal_interval.specs.Values.{IsDateIntervalError, IsDateIntervalOf, IsRepeatedError, IsRepeatedOf}
use Rattle.cal_interval.proofs.DateShapes.{repeated_dates_shape, fits}
use Rattle.cal_interval.proofs.Parsed.{made, refused, repeated_made, repeated_refused, unmatched}
use Rattle.cal_interval.proofs.date.parse_repeated.Goals as goal

pub interval_from_numbers-requires : goal.interval_from_numbers-requires
interval_from_numbers-requires c = fits _ c.in-Some.numbers c.in-Some.ensures.value.has_interval

pub returns-in-Ok : goal.returns-in-Ok
returns-in-Ok c =
    let e = c.in-Ok.ensures in
    let is = made (HasRepeated HasDateInterval) (IsRepeatedOf IsDateIntervalOf) (IsRepeatedError IsDateIntervalError) _ (c.in-Some.count, c.in-Some.numbers) _ repeated_dates_shape.one c.in-Some.ensures.value (repeated_made IsDateIntervalOf IsDateIntervalError c.in-Some.count c.in-Some.numbers _ (record { every = e.every; value = e.value; error = e.error })) in
    record { every = is.every; value = is.value; syntax_error = is.syntax_error; position = is.position; out_of_range = is.out_of_range }

pub returns-in-Err : goal.returns-in-Err
returns-in-Err c =
    let e = c.in-Err.ensures in
    let is = refused (HasRepeated HasDateInterval) (IsRepeatedOf IsDateIntervalOf) (IsRepeatedError IsDateIntervalError) _ (c.in-Some.count, c.in-Some.numbers) _ repeated_dates_shape.one c.in-Some.ensures.value (repeated_refused IsDateIntervalOf IsDateIntervalError c.in-Some.count c.in-Some.numbers _ (record { every = e.every; value = e.value; error = e.error })) in
    record { every = is.every; value = is.value; syntax_error = is.syntax_error; position = is.position; out_of_range = is.out_of_range }

pub overflow_sub-position : goal.overflow_sub-position
overflow_sub-position c = (stopped_large (HasRepeated HasDateInterval) (λ more. Repeated Date more End) repeated_dates_shape _ _ c.in-None.ensures.scans).within

pub returns-in-None : goal.returns-in-None
returns-in-None c =
    let e = c.unexpected.ensures in
    let is = unmatched (HasRepeated HasDateInterval) (IsRepeatedOf IsDateIntervalOf) (IsRepeatedError IsDateIntervalError) _ _ c.unexpected.result (stopped_large (HasRepeated HasDateInterval) (λ more. Repeated Date more End) repeated_dates_shape _ _ c.in-None.ensures.scans) e.byte e.end e.form in
    record { every = is.every; value = is.value; syntax_error = is.syntax_error; position = is.position; out_of_range = is.out_of_range }
