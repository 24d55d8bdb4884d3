use Rattle.cal_text.specs.AnyForm.{IsTextOf, HasAnyForm, IsDateOrMomentError}
use Rattle.cal_datetime_tests.proofs.OneTextAnswer.{one_answer}
use Rattle.cal_datetime_tests.proofs.tests.texts.one_answer.of_any.Goals as goal

pub returns : goal.returns
returns c =
    let text = c.args.text.now in
    let r = c.parse_any.ensures in
    let s = c.parse_any-2.ensures in
    one_answer (IsTextOf text) (IsDateOrMomentError text) HasAnyForm text _ _ r.value s.value r.every s.every
    r.syntax_error s.syntax_error r.out_of_range s.out_of_range r.position s.position
