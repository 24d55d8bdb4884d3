use Rattle.std.proofs.Common.{refl, sym, ◌+◌, ◌-◌, filter, subst}
use Rattle.cal_time.specs.Date.{last_day}
use Rattle.cal_time.specs.Occurrences.{days_from}
use Rattle.cal_c.specs.Recurrences.{set_in, AreDatesWritten}
use Rattle.cal_c.proofs.RuleSets.{same_days}
use Rattle.cal_c.proofs.schedule.recurrences.set_search.write_days_after.Goals as goal

pub returns-then-has_no_dates : goal.returns-then-has_no_dates
returns-then-has_no_dates c =
    subst (λ test. AreDatesWritten (filter test (days_from (c.args.date + 1) (last_day - c.args.date))) c.args.days.now c.write_days.new.days c.write_days.result)
    (same_days _ (set_in c.args.parts.now) c.requires.rule (sym (c.if-has_no_dates.ensures.dates refl)) (sym (c.if-has_no_dates.ensures.exceptions refl))) c.write_days.ensures
