use Rattle.std.proofs.Common.{◌≡◌, ap, ◌∙◌, rules, FitsSigned, w32}
use Rattle.std.proofs.lemmas.Int.{to_z-of_z}
use Rattle.cal_format.specs.Lenient.{IsLenientRejection}
use Rattle.cal_c.specs.FormatParsing.{parse_status}
use Rattle.cal_c.specs.LenientParsing.{IsVariantOfDate}
use Rattle.cal_c.specs.Texts.{parsed_date_ok, parsed_date_error_at}
use Rattle.cal_c.proofs.FormatParsing.{parsed_value, parsed_error}
use Rattle.cal_c.proofs.formats.lenient.parse_date.Goals as goal

pub returns-in-Ok : goal.returns-in-Ok
returns-in-Ok c =
    let f = c.args.format.now in
    let text = c.args.text.now in
    parsed_value (IsVariantOfDate f text) (IsLenientRejection f text) parsed_date_ok parsed_date_error_at c.parse.result c.in-Ok.date c.ok.result c.in-Ok.is
    (λ n is. c.parse.ensures.every n is.0 is.1) c.parse.ensures.value c.ok.ensures

pub returns-in-Err : goal.returns-in-Err
returns-in-Err c =
    let f = c.args.format.now in
    let text = c.args.text.now in
    let of_error = c.status_and_position-status.result in
    let fits : FitsSigned w32 of_error.0 = search rules in
    let made : c.error_at.result ≡ parsed_date_error_at of_error.0 of_error.1 = simp to_z-of_z at c.error_at.ensures in
    parsed_error (IsVariantOfDate f text) (IsLenientRejection f text) parsed_date_ok parsed_date_error_at c.parse.result c.in-Err.error c.error_at.result c.in-Err.is
    (λ n is. c.parse.ensures.every n is.0 is.1) c.in-Err.ensures.error
    (made ∙ ap (λ s. parsed_date_error_at s of_error.1) c.status_and_position-status.ensures.0
    ∙ ap (λ at. parsed_date_error_at (parse_status c.in-Err.error) at) c.status_and_position-status.ensures.1)
