use Rattle.std.proofs.Common.{◌∙◌}
use Rattle.cal_duration.proofs.Lengths.{duration_appended}
use Rattle.cal_duration.proofs.Printed.{printed_duration}
use Rattle.cal_duration.proofs.duration.text.Goals as goal

pub returns-then-is_zero-clause-parses : goal.returns-then-is_zero-clause-parses
returns-then-is_zero-clause-parses c = printed_duration c.args.duration c.whole_nanoseconds.ensures.range

pub returns-clause-value : goal.returns-clause-value
returns-clause-value c =
    duration_appended c.args.duration _ _ _ _ _ _ _ _ _ c.if-is_zero.ensures c.unsigned_abs-seconds.ensures.seconds c.unsigned_abs-seconds.ensures.nanoseconds c.is_negative.ensures c.new-text.ensures c.sign.ensures.value
    c.push-2.ensures.appended c.push-3.ensures.appended (c.as_str.ensures.value ∙ c.clock.ensures.value) c.push-4.ensures.appended

pub returns-clause-parses : goal.returns-clause-parses
returns-clause-parses c = printed_duration c.args.duration c.whole_nanoseconds.ensures.range
