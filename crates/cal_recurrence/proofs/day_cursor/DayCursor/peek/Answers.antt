use Rattle.std.proofs.Common.{◌≡◌, ◌∙◌, sym, ap, arith, slice_get}
use Rattle.cal_schedule.specs.Rule.{occurrences}
use Rattle.cal_recurrence.specs.Cursors.{days_past}
use Rattle.cal_recurrence.proofs.Cursors.{peeked, yielded}
use Rattle.cal_recurrence.proofs.day_cursor.DayCursor.peek.Goals as goal

pub returns-in-None-clause-day : goal.returns-in-None-clause-day
returns-in-None-clause-day c =
    let rule = c.args.rule.now in
    let its = c.args.self.now in
    let first : c.next.result ≡ slice_get (occurrences rule) 0 = yielded c.days.result c.next.new.self c.next.result c.next.ensures.steps ∙ ap (λ l. slice_get l 0) c.days.ensures in
    peeked rule its.left its.last c.next.result (omega (arith, c.if-self-eq0.false)) (first ∙ ap (λ day. slice_get (days_past rule day) 0) (sym c.in-None.is))
