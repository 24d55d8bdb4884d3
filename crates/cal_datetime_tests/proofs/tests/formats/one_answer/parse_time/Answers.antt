use Rattle.std.proofs.Common.{◌≡◌, refl, sym, subst}
use Rattle.std.specs.Prelude.{IsTrue}
use Rattle.cal_time.specs.Time.{IsTime}
use Rattle.cal_format.specs.Moment.{moment_of_time}
use Rattle.cal_format.specs.Reading.{are_apart, holds_time}
use Rattle.cal_format.specs.Text.{text_of}
use Rattle.cal_datetime_tests.proofs.OneFormatAnswer.{one-answer}
use Rattle.cal_datetime_tests.proofs.tests.formats.one_answer.parse_time.Goals as goal

pub returns : goal.returns
returns c =
    let items = c.in_ok-format.format in
    let text = c.args.text.now in
    let first = c.parse.ensures in
    let other = c.parse-2.ensures in
    let apart = subst (λ l. IsTrue (are_apart l)) (sym c.in_ok-format.ensures.same) (c.in_ok-format.ensures.determines.0 refl).0 in
    one-answer (λ t. IsTime t × IsTrue (holds_time items t) × (text ≡ text_of items (moment_of_time t)))
    items text _ _ apart first.value other.value (λ t h. first.every t h.0 h.1 h.2) (λ t h. other.every t h.0 h.1 h.2) first.error other.error
