use Rattle.std.proofs.Common.{◌≡◌, ◌∙◌, refl, sym, ap, arith, take, None, Some}
use Rattle.cal_recurrence.specs.CountedSet.{past_end, unread}
use Rattle.cal_recurrence.specs.DateTimeRule.{DateTimeParts}
use Rattle.cal_recurrence.specs.RecurrenceReadings.{last_reading_of}
use Rattle.cal_recurrence.proofs.Cursors.{first_read}
use Rattle.cal_recurrence.proofs.recurrence.Recurrence.uncounted.Goals as goal

pub returns-clause-counted : goal.returns-clause-counted
returns-clause-counted c =
    let rule = c.date_time_rule-rule.result in
    let first = c.in-Some-count_one.first in
    let more = c.in-Some-count_one.ensures in
    let none : rule.until ≡ None = ap (λ (r : DateTimeParts). r.until) c.date_time_rule-rule.ensures ∙ ap last_reading_of c.in-Count.is in
    let left = c.count_one.new.self in
    first_read rule c.args.cursor.left left.readings first none (sym (c.new-left-2.ensures.readings ∙ c.first_readings.ensures) ∙ more.0)
    ∙ ap (λ k. take k (past_end rule (Some first))) (omega (arith, more.1, c.new-left-2.ensures.left))
    ∙ ap (λ r. unread r left.left) (sym c.end_at-2.ensures)
