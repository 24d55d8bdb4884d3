use Rattle.cal_text.specs.OffsetDateTimeForm.{IsOffsetDateTimeError, IsOffsetDateTimeOf}
use Rattle.cal_text.proofs.Parsed.{made, refused, unmatched}
use Rattle.cal_text.proofs.Positions.{stopped_large}
use Rattle.cal_iso.specs.MomentForm.{HasIsoMoment}
use Rattle.cal_iso.proofs.DateReads.{fits}
use Rattle.cal_iso.proofs.MomentReads.{clock_below}
use Rattle.cal_iso.proofs.MomentShapes.{moment_shapes}
use Rattle.cal_iso.proofs.offset_date_time.parse.Goals as goal

pub moment_from_numbers-requires : goal.moment_from_numbers-requires
moment_from_numbers-requires c =
    let local = c.in-Some.ensures.value.has_local in
    (fits local.date c.in-Some.numbers.local.date local.has_date, clock_below local.time c.in-Some.numbers.local.time local.has_time)

pub returns-in-Ok : goal.returns-in-Ok
returns-in-Ok c =
    let e = c.in-Ok.ensures in
    let is = made HasIsoMoment IsOffsetDateTimeOf IsOffsetDateTimeError _ _ _ moment_shapes.one c.in-Some.ensures.value (record { every = e.every; value = e.value; error = e.error }) in
    record { every = is.every; value = is.value; syntax_error = is.syntax_error; position = is.position; out_of_range = is.out_of_range }

pub returns-in-Err : goal.returns-in-Err
returns-in-Err c =
    let e = c.in-Err.ensures in
    let is = refused HasIsoMoment IsOffsetDateTimeOf IsOffsetDateTimeError _ _ _ moment_shapes.one c.in-Some.ensures.value (record { every = e.every; value = e.value; error = e.error }) in
    record { every = is.every; value = is.value; syntax_error = is.syntax_error; position = is.position; out_of_range = is.out_of_range }

pub overflow_sub-position : goal.overflow_sub-position
overflow_sub-position c = (stopped_large HasIsoMoment _ moment_shapes c.args.text.now _ (λ k few. c.in-None.ensures.scans k)).within

pub returns-in-None : goal.returns-in-None
returns-in-None c =
    let e = c.unexpected.ensures in
    let is = unmatched HasIsoMoment IsOffsetDateTimeOf IsOffsetDateTimeError _ _ c.unexpected.result (stopped_large HasIsoMoment _ moment_shapes c.args.text.now _ (λ k few. c.in-None.ensures.scans k)) e.byte e.end e.form in
    record { every = is.every; value = is.value; syntax_error = is.syntax_error; position = is.position; out_of_range = is.out_of_range }
