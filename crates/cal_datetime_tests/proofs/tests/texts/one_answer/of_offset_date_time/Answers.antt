use Rattle.cal_text.specs.OffsetDateTimeForm.{IsOffsetDateTimeText, HasOffsetDateTimeForm, IsOffsetDateTimeError}
use Rattle.cal_text.specs.Position.{HasSome}
use Rattle.cal_text.specs.Parsing.{HasError}
use Rattle.cal_datetime_tests.proofs.OneTextAnswer.{one_answer}
use Rattle.cal_datetime_tests.proofs.tests.texts.one_answer.of_offset_date_time.Goals as goal

pub returns : goal.returns
returns c =
    let text = c.args.text.now in
    let r = c.parse.ensures in
    let s = c.parse-2.ensures in
    one_answer (IsOffsetDateTimeText text) (HasError HasOffsetDateTimeForm IsOffsetDateTimeError text) (HasSome HasOffsetDateTimeForm) text _ _ r.value s.value r.every s.every
    r.syntax_error s.syntax_error r.out_of_range s.out_of_range r.position s.position
