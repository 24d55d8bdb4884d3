use Rattle.std.proofs.Common.{Ok, Err}
use Rattle.cal_text.specs.Shape.{unix_time}
use Rattle.cal_text.specs.UnixText.{HasUnixForm, IsUnixTimeError}
use Rattle.cal_text.proofs.Parsed.{made, refused, unmatched}
use Rattle.cal_text.proofs.Positions.{stopped}
use Rattle.cal_text.proofs.UnixReads.{IsUnixOf, text_of, form_of, unix_made, wide-form}
use Rattle.cal_text.proofs.UnixShapes.{unix_shape}
use Rattle.cal_text.proofs.unix.parse.Goals as goal

pub returns-in-Ok : goal.returns-in-Ok
returns-in-Ok c =
    let v = c.in-Some.nanoseconds in
    let has = c.in-Some.ensures.value in
    let e = c.in-Ok.ensures in
    let at = unix_made v _ (Ok c.in-Ok.moment) (wide-form _ v has) e.value e.error e.error_kind in
    let is = made HasUnixForm IsUnixOf IsUnixTimeError _ v _ unix_shape.one has at in
    record { every = λ m t. is.every m (form_of _ m t); value = text_of _ v _ has at.value; syntax_error = is.syntax_error; position = is.position; out_of_range = is.out_of_range }

pub returns-in-Err : goal.returns-in-Err
returns-in-Err c =
    let v = c.in-Some.nanoseconds in
    let has = c.in-Some.ensures.value in
    let e = c.in-Err.ensures in
    let is = refused HasUnixForm IsUnixOf IsUnixTimeError _ v _ unix_shape.one has (unix_made v _ (Err c.in-Err.error) (wide-form _ v has) e.value e.error e.error_kind) in
    record { every = λ m t. is.every m (form_of _ m t); value = tt; syntax_error = is.syntax_error; position = is.position; out_of_range = is.out_of_range }

pub overflow_sub-position : goal.overflow_sub-position
overflow_sub-position c = (stopped HasUnixForm unix_time unix_shape _ _ c.in-None.ensures.scans).within

pub returns-in-None : goal.returns-in-None
returns-in-None c =
    let e = c.unexpected.ensures in
    let is = unmatched HasUnixForm IsUnixOf IsUnixTimeError _ _ c.unexpected.result (stopped HasUnixForm unix_time unix_shape _ _ c.in-None.ensures.scans) e.byte e.end e.form in
    record { every = λ m t. is.every m (form_of _ m t); value = tt; syntax_error = is.syntax_error; position = is.position; out_of_range = is.out_of_range }
