use Rattle.std.proofs.Common.{◌≡◌, refl, sym, subst}
use Rattle.std.specs.Prelude.{IsTrue}
use Rattle.cal_time.specs.UtcOffset.{IsOffset}
use Rattle.cal_datetime.specs.DateTime.{IsDateTime, time_at}
use Rattle.cal_datetime.specs.OffsetDateTime.{LocalAndOffset}
use Rattle.cal_format.specs.Moment.{moment_of_offset_date_time}
use Rattle.cal_format.specs.Reading.{are_apart, holds_offset, holds_time}
use Rattle.cal_format.specs.Scanning.{AreHeld}
use Rattle.cal_format.specs.Text.{text_of}
use Rattle.cal_datetime_tests.proofs.OneFormatAnswer.{one-answer}
use Rattle.cal_datetime_tests.proofs.tests.formats.one_answer.parse_offset_date_time.Goals as goal

pub returns : goal.returns
returns c =
    let items = c.in_ok-format.format in
    let text = c.args.text.now in
    let first = c.parse.ensures in
    let other = c.parse-2.ensures in
    let apart = subst (λ l. IsTrue (are_apart l)) (sym c.in_ok-format.ensures.same) (c.in_ok-format.ensures.determines.0 refl).0 in
    one-answer (λ (m : LocalAndOffset). IsDateTime m.local × IsOffset m.offset × AreHeld (moment_of_offset_date_time m) items × IsTrue (holds_time items (time_at m.local)) × IsTrue (holds_offset items m.offset) × (text ≡ text_of items (moment_of_offset_date_time m)))
    items text _ _ apart first.value other.value (λ m h. first.every m h.0 h.1 h.2 h.3 h.4 h.5) (λ m h. other.every m h.0 h.1 h.2 h.3 h.4 h.5) first.error other.error
