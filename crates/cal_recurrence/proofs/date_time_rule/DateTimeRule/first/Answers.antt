use Rattle.std.proofs.Common.{◌≡◌, ◌+◌, ◌*◌, ◌≤◌, ◌∙◌, sym, ap, arith, pos, slice_get, subst}
use Rattle.cal_time.specs.SignedDuration.{day}
use Rattle.cal_datetime.specs.DateTime.{last_date_time, date_at, time_at, IsDateTime}
use Rattle.cal_recurrence.proofs.RuleOccurrences.{from-start}
use Rattle.cal_recurrence.proofs.date_time_rule.DateTimeRule.first.Goals as goal

pub returns-clause-value : goal.returns-clause-value
returns-clause-value c =
    let rule = c.args.self.now in
    let start = c.self.inside.start in
    let s = c.date.result * day + c.nanoseconds.result in
    let parts : date_at start * day + time_at start ≡ s = omega (arith, c.date.ensures.value, c.time.ensures.value, c.nanoseconds.ensures.value) in
    let within : s ≤ last_date_time = omega (arith, c.date.ensures.range, c.nanoseconds.ensures.max) in
    c.next_from.ensures
    ∙ ap (λ l. slice_get l 0) (from-start rule 0 s (sym (ap (λ r. r.start) c.self.view_is) ∙ c.time.ensures.whole ∙ ap pos parts) (omega arith) within)

pub returns-clause-in_range : goal.returns-clause-in_range
returns-clause-in_range c = subst IsDateTime (ap (λ r. r.start) c.self.view_is) c.date.ensures.in_range
