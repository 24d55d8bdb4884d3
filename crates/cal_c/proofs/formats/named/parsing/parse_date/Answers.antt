use Rattle.std.proofs.Common.{◌≡◌, ◌∙◌, ap, refl, rules, subst, FitsSigned, w32}
use Rattle.std.proofs.lemmas.Int.{to_z-of_z}
use Rattle.cal_format.specs.Moment.{moment_of_date}
use Rattle.cal_named_format.specs.Ambiguity.{ReadBack}
use Rattle.cal_named_format.specs.Named.{text_in}
use Rattle.cal_named_format.specs.Rejection.{IsRejectionIn}
use Rattle.cal_named_format.specs.Values.{HoldsDate}
use Rattle.cal_c.specs.FormatParsing.{parse_status}
use Rattle.cal_c.specs.Texts.{parsed_date_ok, parsed_date_error_at}
use Rattle.cal_c.proofs.FormatParsing.{parsed_value, parsed_error}
use Rattle.cal_c.proofs.NamedParsing.{read_back}
use Rattle.cal_c.proofs.formats.named.parsing.parse_date.Goals as goal

pub returns-in-Ok : goal.returns-in-Ok
returns-in-Ok c =
    let t = c.args.names.now in
    let items = c.args.format.now in
    let text = c.args.text.now in
    let reads = subst (ReadBack t) (c.items.ensures.items ∙ c.as_format.ensures.items) (c.in_default.ensures.reads.0 refl) in
    read_back HoldsDate moment_of_date parsed_date_ok parsed_date_error_at text t items c.ok.result reads
    (parsed_value (λ v. HoldsDate items v × (text ≡ text_in t items (moment_of_date v))) (IsRejectionIn t items text) parsed_date_ok parsed_date_error_at c.parse_date.result c.in-Ok.date c.ok.result c.in-Ok.is (λ v own. c.parse_date.ensures.every v own.0 own.1) c.parse_date.ensures.value c.ok.ensures)

pub returns-in-Err-named_date : goal.returns-in-Err-named_date
returns-in-Err-named_date c =
    let t = c.args.names.now in
    let items = c.args.format.now in
    let text = c.args.text.now in
    let reads = subst (ReadBack t) (c.items.ensures.items ∙ c.as_format.ensures.items) (c.in_default.ensures.reads.0 refl) in
    let of_error = c.status_and_position-status.result in
    let same = c.status_and_position-status.ensures in
    let fits : FitsSigned w32 of_error.0 = search rules in
    let made : c.error_at-in-Err-named_date.result ≡ parsed_date_error_at of_error.0 of_error.1 = simp to_z-of_z at c.error_at-in-Err-named_date.ensures in
    read_back HoldsDate moment_of_date parsed_date_ok parsed_date_error_at text t items c.error_at-in-Err-named_date.result reads
    (parsed_error (λ v. HoldsDate items v × (text ≡ text_in t items (moment_of_date v))) (IsRejectionIn t items text) parsed_date_ok parsed_date_error_at c.parse_date.result c.in-Err-named_date.error c.error_at-in-Err-named_date.result c.in-Err-named_date.is (λ v own. c.parse_date.ensures.every v own.0 own.1) c.in-Err-named_date.ensures.error (made ∙ ap (λ s. parsed_date_error_at s of_error.1) same.0 ∙ ap (λ at. parsed_date_error_at (parse_status c.in-Err-named_date.error) at) same.1))
