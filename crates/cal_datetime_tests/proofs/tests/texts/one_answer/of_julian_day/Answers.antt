use Rattle.std.proofs.Common.{◌≡◌}
use Rattle.cal_time.specs.Date.{IsDate}
use Rattle.cal_text.specs.JulianForm.{julian_text, IsJulianForm, IsJulianDayError}
use Rattle.cal_text.specs.Position.{HasSome}
use Rattle.cal_text.specs.Parsing.{HasError}
use Rattle.cal_datetime_tests.proofs.OneTextAnswer.{one_answer}
use Rattle.cal_datetime_tests.proofs.tests.texts.one_answer.of_julian_day.Goals as goal

pub returns : goal.returns
returns c =
    let text = c.args.text.now in
    let r = c.parse.ensures in
    let s = c.parse-2.ensures in
    one_answer (λ n. IsDate n × (text ≡ julian_text n)) (HasError IsJulianForm IsJulianDayError text) (HasSome IsJulianForm) text _ _ r.value s.value (λ n h. r.every n h.0 h.1) (λ n h. s.every n h.0 h.1)
    r.syntax_error s.syntax_error r.out_of_range s.out_of_range r.position s.position
