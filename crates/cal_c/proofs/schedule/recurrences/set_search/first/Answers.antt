use Rattle.std.proofs.Common.{refl, ◌+◌, ap, ◌∙◌, filter, slice_get}
use Rattle.cal_time.specs.Date.{last_day}
use Rattle.cal_time.specs.Occurrences.{days_from}
use Rattle.cal_c.specs.Recurrences.{set_in}
use Rattle.cal_c.proofs.Recurring.{first_given}
use Rattle.cal_c.proofs.RuleSets.{in_rule}
use Rattle.cal_c.proofs.schedule.recurrences.set_search.first.Goals as goal

pub returns-then-has_no_dates : goal.returns-then-has_no_dates
returns-then-has_no_dates c =
    let same = in_rule (set_in c.args.parts.now) c.args.rule c.requires.rule (c.if-has_no_dates.ensures.dates refl) (c.if-has_no_dates.ensures.exceptions refl) in
    first_given _ _ _ c.next.ensures.steps ∙ ap (λ l. slice_get l 0) (c.days.ensures ∙ ap (λ test. filter test (days_from 0 (last_day + 1))) same)
