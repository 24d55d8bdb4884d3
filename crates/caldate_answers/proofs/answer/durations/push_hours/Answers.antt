use Rattle.std.proofs.Common.{◌∙◌}
use Rattle.caldate_answers.proofs.Durations.{hours_appended}
use Rattle.caldate_answers.proofs.answer.durations.push_hours.Goals as goal

pub returns-clause-text : goal.returns-clause-text
returns-clause-text c =
    hours_appended c.args.duration _ _ _ _ _ _ _ _ c.unsigned_abs-seconds.ensures.seconds c.unsigned_abs-seconds.ensures.nanoseconds c.is_negative.ensures
    (c.as_bytes.ensures.value ∙ c.sign.ensures.value) c.push.ensures.appended (c.as_bytes-2.ensures.value ∙ c.clock_text.ensures.value) c.push-2.ensures.appended
