use Rattle.std.proofs.Common.{◌+◌, ◌*◌, ◌∙◌, sym, ap, arith, Some}
use Rattle.cal_time.specs.SignedDuration.{day}
use Rattle.cal_recurrence.specs.DateTimeRule.{is_not_after}
use Rattle.cal_recurrence.specs.TimeSearch.{reading_number}
use Rattle.cal_recurrence.proofs.RuleOccurrences.{first-passes, none-pass, past-end}
use Rattle.cal_recurrence.proofs.date_time_rule.DateTimeRule.next_from.Goals as goal

pub returns-in_err-day : goal.returns-in_err-day
returns-in_err-day c =
    let m = c.args.date * day + c.args.first in
    c.from_residual.ensures ∙ none-pass c.args.self.now m (omega (arith, c.next_match.ensures.in_range, c.requires.first)) c.in_err-day.ensures.value

pub returns-then-is_not_after : goal.returns-then-is_not_after
returns-then-is_not_after c =
    let rule = c.args.self.now in
    let m = c.args.date * day + c.args.first in
    let reading = c.new-reading in
    ap Some reading.ensures.value
    ∙ first-passes rule m (reading_number (c.in_ok-day.day, c.in_ok-day.time)) c.requires.start c.in_ok-day.ensures.value
    (ap (is_not_after rule.until) (sym reading.ensures.value) ∙ sym c.is_not_after.ensures ∙ c.if-is_not_after.true)

pub returns-else-is_not_after : goal.returns-else-is_not_after
returns-else-is_not_after c =
    let rule = c.args.self.now in
    let m = c.args.date * day + c.args.first in
    let reading = c.new-reading in
    past-end rule m (reading_number (c.in_ok-day.day, c.in_ok-day.time)) (omega (arith, c.next_match.ensures.in_range, c.requires.first)) c.in_ok-day.ensures.value
    (ap (is_not_after rule.until) (sym reading.ensures.value) ∙ sym c.is_not_after.ensures ∙ c.if-is_not_after.false)
