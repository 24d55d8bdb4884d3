use Rattle.std.proofs.Common.{refl, ◌+◌, ◌-◌, ap, ◌∙◌, filter, slice_get}
use Rattle.cal_time.specs.Date.{last_day}
use Rattle.cal_time.specs.Occurrences.{days_from}
use Rattle.cal_c.specs.Recurrences.{set_in}
use Rattle.cal_c.proofs.RuleSets.{in_rule}
use Rattle.cal_c.proofs.schedule.recurrences.set_search.next_after.Goals as goal

pub returns-then-has_no_dates : goal.returns-then-has_no_dates
returns-then-has_no_dates c =
    let same = in_rule (set_in c.args.parts.now) c.args.rule c.requires.rule (c.if-has_no_dates.ensures.dates refl) (c.if-has_no_dates.ensures.exceptions refl) in
    c.next_after.ensures.value ∙ ap (λ test. slice_get (filter test (days_from (c.args.date + 1) (last_day - c.args.date))) 0) same
