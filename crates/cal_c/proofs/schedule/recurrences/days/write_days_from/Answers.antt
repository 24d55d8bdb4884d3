use Rattle.std.proofs.Common.{◌∙◌, ap, filter, nat_le, subst}
use Rattle.cal_recurrence.specs.Cursors.{days_left}
use Rattle.cal_c.specs.Recurrences.{AreDatesWritten}
use Rattle.cal_c.proofs.schedule.recurrences.days.write_days_from.Goals as goal

pub returns : goal.returns
returns c =
    let from = c.args.from in
    let cursor = c.day_cursor-cursor.result in
    subst (λ days. AreDatesWritten days c.args.days.now c.write_page.new.days c.write_page.result)
    (ap (filter (nat_le from)) (ap (λ rule. days_left rule cursor) c.rule.ensures ∙ c.day_cursor-cursor.ensures c.args.start)) c.write_page.ensures.written
