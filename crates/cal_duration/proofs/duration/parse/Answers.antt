use Rattle.cal_text.specs.Shape.{End}
use Rattle.cal_text.proofs.Positions.{stopped_large}
use Rattle.cal_duration.specs.DurationShape.{Duration}
use Rattle.cal_duration.specs.Form.{HasDurationForm}
use Rattle.cal_duration.specs.Values.{IsDurationOf, IsDurationError}
use Rattle.cal_duration.proofs.Parsed.{made, refused, unmatched}
use Rattle.cal_duration.proofs.Ranges.{one_duration}
use Rattle.cal_duration.proofs.Shapes.{duration_shape}
use Rattle.cal_duration.proofs.duration.parse.Goals as goal

pub returns-in-Ok : goal.returns-in-Ok
returns-in-Ok c =
    let is = made HasDurationForm IsDurationOf IsDurationError one_duration _ c.in-Some.numbers _ c.in-Some.ensures.value c.in-Ok.ensures.value in
    record { every = is.every; value = is.value; syntax_error = is.syntax_error; position = is.position; out_of_range = is.out_of_range }

pub returns-in-Err : goal.returns-in-Err
returns-in-Err c =
    let is = refused HasDurationForm IsDurationOf IsDurationError one_duration _ c.in-Some.numbers c.in-Err.component c.in-Some.ensures.value c.in-Err.ensures.error in
    record { every = is.every; value = is.value; syntax_error = is.syntax_error; position = is.position; out_of_range = is.out_of_range }

pub overflow_sub-position : goal.overflow_sub-position
overflow_sub-position c = (stopped_large HasDurationForm (λ more. Duration more End) duration_shape _ _ c.in-None.ensures.scans).within

pub returns-in-None : goal.returns-in-None
returns-in-None c =
    let e = c.unexpected.ensures in
    let is = unmatched HasDurationForm IsDurationOf IsDurationError _ _ c.unexpected.result (stopped_large HasDurationForm (λ more. Duration more End) duration_shape _ _ c.in-None.ensures.scans) e.byte e.end e.form in
    record { every = is.every; value = is.value; syntax_error = is.syntax_error; position = is.position; out_of_range = is.out_of_range }
