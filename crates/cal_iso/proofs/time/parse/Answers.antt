use Rattle.std.proofs.Common.{Ok, Err}
use Rattle.cal_text.specs.TimeForm.{IsTimeError, IsTimeOf}
use Rattle.cal_text.proofs.Parsed.{made, refused, unmatched}
use Rattle.cal_text.proofs.PlainReads.{time_errors}
use Rattle.cal_text.proofs.Positions.{stopped_large}
use Rattle.cal_iso.specs.TimeForm.{HasIsoTime}
use Rattle.cal_iso.proofs.MomentReads.{time_below}
use Rattle.cal_iso.proofs.MomentShapes.{time_shapes}
use Rattle.cal_iso.proofs.time.parse.Goals as goal

pub time_from_numbers-requires : goal.time_from_numbers-requires
time_from_numbers-requires c = time_below c.args.text.now c.in-Some.numbers c.in-Some.ensures.value

pub returns-in-Ok : goal.returns-in-Ok
returns-in-Ok c =
    let e = c.in-Ok.ensures in
    let is = made HasIsoTime IsTimeOf IsTimeError _ _ _ time_shapes.one c.in-Some.ensures.value (record { every = e.every; value = e.value; error = time_errors c.in-Some.numbers (Ok c.in-Ok.value) e.hour e.minute e.second e.error_kind }) in
    record { every = is.every; value = is.value; syntax_error = is.syntax_error; position = is.position; out_of_range = is.out_of_range }

pub returns-in-Err : goal.returns-in-Err
returns-in-Err c =
    let e = c.in-Err.ensures in
    let is = refused HasIsoTime IsTimeOf IsTimeError _ _ _ time_shapes.one c.in-Some.ensures.value (record { every = e.every; value = e.value; error = time_errors c.in-Some.numbers (Err c.in-Err.error) e.hour e.minute e.second e.error_kind }) in
    record { every = is.every; value = is.value; syntax_error = is.syntax_error; position = is.position; out_of_range = is.out_of_range }

pub overflow_sub-position : goal.overflow_sub-position
overflow_sub-position c = (stopped_large HasIsoTime _ time_shapes c.args.text.now _ (λ k few. c.in-None.ensures.scans k)).within

pub returns-in-None : goal.returns-in-None
returns-in-None c =
    let e = c.unexpected.ensures in
    let is = unmatched HasIsoTime IsTimeOf IsTimeError _ _ c.unexpected.result (stopped_large HasIsoTime _ time_shapes c.args.text.now _ (λ k few. c.in-None.ensures.scans k)) e.byte e.end e.form in
    record { every = is.every; value = is.value; syntax_error = is.syntax_error; position = is.position; out_of_range = is.out_of_range }
