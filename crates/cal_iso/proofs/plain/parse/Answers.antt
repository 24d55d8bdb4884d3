use Rattle.cal_text.specs.PlainForm.{IsPlainError, IsPlainOf}
use Rattle.cal_text.proofs.Parsed.{made, refused, unmatched}
use Rattle.cal_text.proofs.Positions.{stopped_large}
use Rattle.cal_iso.specs.MomentForm.{HasIsoPlain}
use Rattle.cal_iso.proofs.MomentReads.{plain_below, plain_fits}
use Rattle.cal_iso.proofs.MomentShapes.{plain_shapes}
use Rattle.cal_iso.proofs.plain.parse.Goals as goal

pub plain_from_numbers-requires : goal.plain_from_numbers-requires
plain_from_numbers-requires c = (plain_fits _ c.in-Some.numbers c.in-Some.ensures.value, plain_below _ c.in-Some.numbers c.in-Some.ensures.value)

pub returns-in-Ok : goal.returns-in-Ok
returns-in-Ok c =
    let e = c.in-Ok.ensures in
    let is = made HasIsoPlain IsPlainOf IsPlainError _ _ _ plain_shapes.one c.in-Some.ensures.value (record { every = e.every; value = e.value; error = e.error }) in
    record { every = is.every; value = is.value; syntax_error = is.syntax_error; position = is.position; out_of_range = is.out_of_range }

pub returns-in-Err : goal.returns-in-Err
returns-in-Err c =
    let e = c.in-Err.ensures in
    let is = refused HasIsoPlain IsPlainOf IsPlainError _ _ _ plain_shapes.one c.in-Some.ensures.value (record { every = e.every; value = e.value; error = e.error }) in
    record { every = is.every; value = is.value; syntax_error = is.syntax_error; position = is.position; out_of_range = is.out_of_range }

pub overflow_sub-position : goal.overflow_sub-position
overflow_sub-position c = (stopped_large HasIsoPlain _ plain_shapes c.args.text.now _ (λ k few. c.in-None.ensures.scans k)).within

pub returns-in-None : goal.returns-in-None
returns-in-None c =
    let e = c.unexpected.ensures in
    let is = unmatched HasIsoPlain IsPlainOf IsPlainError _ _ c.unexpected.result (stopped_large HasIsoPlain _ plain_shapes c.args.text.now _ (λ k few. c.in-None.ensures.scans k)) e.byte e.end e.form in
    record { every = is.every; value = is.value; syntax_error = is.syntax_error; position = is.position; out_of_range = is.out_of_range }
