use Rattle.std.proofs.Common.{◌≡◌, refl, sym, subst}
use Rattle.std.specs.Prelude.{IsTrue}
use Rattle.cal_datetime.specs.DateTime.{IsDateTime, time_at}
use Rattle.cal_format.specs.Moment.{moment_of_date_time}
use Rattle.cal_format.specs.Reading.{are_apart, holds_time}
use Rattle.cal_format.specs.Scanning.{AreHeld}
use Rattle.cal_format.specs.Text.{text_of}
use Rattle.cal_datetime_tests.proofs.OneFormatAnswer.{one-answer}
use Rattle.cal_datetime_tests.proofs.tests.formats.one_answer.parse_date_time.Goals as goal

pub returns : goal.returns
returns c =
    let items = c.in_ok-format.format in
    let text = c.args.text.now in
    let first = c.parse.ensures in
    let other = c.parse-2.ensures in
    let apart = subst (λ l. IsTrue (are_apart l)) (sym c.in_ok-format.ensures.same) (c.in_ok-format.ensures.determines.0 refl).0 in
    one-answer (λ z. IsDateTime z × AreHeld (moment_of_date_time z) items × IsTrue (holds_time items (time_at z)) × (text ≡ text_of items (moment_of_date_time z)))
    items text _ _ apart first.value other.value (λ z h. first.every z h.0 h.1 h.2 h.3) (λ z h. other.every z h.0 h.1 h.2 h.3) first.error other.error
