use Rattle.std.proofs.Common.{append_assoc}
use Rattle.cal_text.proofs.rfc3339.text.Text.push_to.Goals as goal

pub returns-clause-appended : goal.returns-clause-appended
returns-clause-appended c =
    rw (c.push_offset.ensures.appended, c.push_fraction.ensures.appended, c.push_time.ensures.appended, c.push.ensures.appended, c.push_date.ensures.appended, c.nanosecond.ensures) (simp append_assoc)
