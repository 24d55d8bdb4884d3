use Rattle.std.proofs.Common.{◌∙◌}
use Rattle.cal_duration.proofs.Lengths.{time_appended}
use Rattle.cal_duration.proofs.period.text.Text.push_time.Goals as goal

pub returns : goal.returns
returns c = record {
  appended =
      time_appended c.args.duration _ _ _ _ _ _ c.if-is_zero.ensures c.unsigned_abs-seconds.ensures.seconds c.unsigned_abs-seconds.ensures.nanoseconds c.push.ensures.appended
      (c.as_str.ensures.value ∙ c.clock.ensures.value) c.push-2.ensures.appended;
}
