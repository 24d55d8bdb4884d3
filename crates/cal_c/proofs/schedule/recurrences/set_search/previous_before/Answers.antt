use Rattle.std.proofs.Common.{refl, ap, ◌∙◌, filter, slice_get}
use Rattle.cal_time.specs.Occurrences.{days_back_from}
use Rattle.cal_c.specs.Recurrences.{set_in}
use Rattle.cal_c.proofs.RuleSets.{in_rule}
use Rattle.cal_c.proofs.schedule.recurrences.set_search.previous_before.Goals as goal

pub returns-then-has_no_dates : goal.returns-then-has_no_dates
returns-then-has_no_dates c =
    let same = in_rule (set_in c.args.parts.now) c.args.rule c.requires.rule (c.if-has_no_dates.ensures.dates refl) (c.if-has_no_dates.ensures.exceptions refl) in
    c.previous_before.ensures.value ∙ ap (λ test. slice_get (filter test (days_back_from c.args.date)) 0) same
