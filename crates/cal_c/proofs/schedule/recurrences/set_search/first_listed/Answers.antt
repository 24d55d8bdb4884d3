use Rattle.std.proofs.Common.{◌+◌, ap, ◌∙◌, filter, slice_get}
use Rattle.cal_time.specs.Date.{last_day}
use Rattle.cal_time.specs.Occurrences.{days_from}
use Rattle.cal_c.specs.Recurrences.{set_in}
use Rattle.cal_c.proofs.Recurring.{first_given}
use Rattle.cal_c.proofs.RuleSets.{same_days}
use Rattle.cal_c.proofs.schedule.recurrences.set_search.first_listed.Goals as goal

pub returns : goal.returns
returns c =
    let same = same_days c.set.result (set_in c.args.parts.now) (c.set.ensures.rule ∙ c.requires.rule) (c.set.ensures.dates ∙ c.from_parts-lists.ensures.dates)
    (c.set.ensures.exceptions ∙ c.from_parts-lists.ensures.exceptions) in
    first_given _ _ _ c.next.ensures.steps ∙ ap (λ l. slice_get l 0) (c.days.ensures ∙ ap (λ test. filter test (days_from 0 (last_day + 1))) same)
