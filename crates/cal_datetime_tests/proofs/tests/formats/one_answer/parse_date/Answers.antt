use Rattle.std.proofs.Common.{◌≡◌, refl, sym, subst}
use Rattle.std.specs.Prelude.{IsTrue}
use Rattle.cal_time.specs.Date.{IsDate}
use Rattle.cal_format.specs.Moment.{moment_of_date}
use Rattle.cal_format.specs.Reading.{are_apart}
use Rattle.cal_format.specs.Scanning.{AreHeld}
use Rattle.cal_format.specs.Text.{text_of}
use Rattle.cal_datetime_tests.proofs.OneFormatAnswer.{one-answer}
use Rattle.cal_datetime_tests.proofs.tests.formats.one_answer.parse_date.Goals as goal

pub returns : goal.returns
returns c =
    let items = c.in_ok-format.format in
    let text = c.args.text.now in
    let first = c.parse.ensures in
    let other = c.parse-2.ensures in
    let apart = subst (λ l. IsTrue (are_apart l)) (sym c.in_ok-format.ensures.same) (c.in_ok-format.ensures.determines.0 refl).0 in
    one-answer (λ n. IsDate n × AreHeld (moment_of_date n) items × (text ≡ text_of items (moment_of_date n)))
    items text _ _ apart first.value other.value (λ n h. first.every n h.0 h.1 h.2) (λ n h. other.every n h.0 h.1 h.2) first.error other.error
