use Rattle.cal_duration.specs.Form.{HasDurationForm}
use Rattle.cal_duration.specs.Values.{IsDurationOf, IsDurationError}
use Rattle.cal_duration.proofs.OneAnswer.{one_answer}
use Rattle.cal_schedule_tests.proofs.tests.durations.one_answer.of_duration.Goals as goal

pub returns : goal.returns
returns c =
    let r = c.parse.ensures in
    let s = c.parse-2.ensures in
    one_answer HasDurationForm IsDurationOf IsDurationError c.args.text.now _ _
    (record { every = r.every; value = r.value; syntax_error = r.syntax_error; position = r.position; out_of_range = r.out_of_range })
    (record { every = s.every; value = s.value; syntax_error = s.syntax_error; position = s.position; out_of_range = s.out_of_range })
