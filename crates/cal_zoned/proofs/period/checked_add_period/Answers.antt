use Rattle.std.proofs.Common.{◌∙◌, ap, sym, subst, ℕ}
use Rattle.cal_datetime.specs.DateTime.{date_at, date_time, time_at, with_date}
use Rattle.cal_schedule.specs.Period.{days_of, months_of, IsDaysLater}
use Rattle.cal_schedule.proofs.Periods.{no_value, one_days_later}
use Rattle.cal_zoned.proofs.Periods.{later_of, is_later}
use Rattle.cal_zoned.proofs.period.checked_add_period.Goals as goal

pub returns-in_err-date-clause-every : goal.returns-in_err-date-clause-every
returns-in_err-date-clause-every c r h later =
    absurd (no_value later.day (c.in_err-date.ensures.every later.day later.in_range (subst (λ (k : ℕ). IsDaysLater k (months_of c.args.period) (days_of c.args.period) later.day) (sym c.date.ensures.value) later.moved)))

pub returns-clause-every : goal.returns-clause-every
returns-clause-every c r h later =
    let found = subst (λ (k : ℕ). IsDaysLater k (months_of c.args.period) (days_of c.args.period) c.in_ok-date.date) c.date.ensures.value c.in_ok-date.ensures.value.1 in
    let same = one_days_later (date_at c.args.start) c.in_ok-date.date later.day _ _ found later.moved in
    c.checked_add.ensures.every r h
    (later_of r (with_date c.args.start later.day) c.replace_date.result c.args.period.exact c.duration.result later.exact
    (c.replace_date.ensures.value ∙ ap (λ (n : ℕ). date_time n (time_at c.args.start)) same) c.duration.ensures)

pub returns-clause-value : goal.returns-clause-value
returns-clause-value c =
    let found = subst (λ (k : ℕ). IsDaysLater k (months_of c.args.period) (days_of c.args.period) c.in_ok-date.date) c.date.ensures.value c.in_ok-date.ensures.value.1 in
    is_later c.args.start _ _ _ c.in_ok-date.date c.replace_date.result c.duration.result c.checked_add.result c.in_ok-date.ensures.value.0 found c.replace_date.ensures.value c.duration.ensures c.checked_add.ensures.value
