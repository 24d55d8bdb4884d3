use Rattle.std.proofs.Common.{◌∙◌, ap, sym, subst, ℕ, ◌*ℤ◌}
use Rattle.std.proofs.lemmas.Int.{to_z-of_z}
use Rattle.cal_datetime.specs.DateTime.{date_at, date_time, time_at, with_date}
use Rattle.cal_schedule.specs.Period.{days_of, months_of, IsDaysLater}
use Rattle.cal_schedule.proofs.Periods.{no_value, one_days_later}
use Rattle.cal_zoned.proofs.Periods.{later_of, is_later, product_within, exact_product}
use Rattle.cal_zoned.proofs.period.nth_period.Goals as goal

pub returns-in_err-date-clause-every : goal.returns-in_err-date-clause-every
returns-in_err-date-clause-every c r h later =
    let n = c.ranges.n in
    let every = simp to_z-of_z at c.in_err-date.ensures.every in
    absurd (no_value later.day (every later.day later.in_range (subst (λ (k : ℕ). IsDaysLater k (c.args.n *ℤ months_of c.args.period) (c.args.n *ℤ days_of c.args.period) later.day) (sym c.date.ensures.value) later.moved)))

pub returns-in_err-duration-clause-every : goal.returns-in_err-duration-clause-every
returns-in_err-duration-clause-every c r h later =
    let n = c.ranges.n in
    let none = simp to_z-of_z at c.in_err-duration.ensures in
    absurd (none (product_within c.args.start c.args.n c.args.period.exact c.duration.result r later.day c.duration.ensures later.in_range c.date.ensures.in_range h later.exact))

pub returns-clause-every : goal.returns-clause-every
returns-clause-every c r h later =
    let n = c.ranges.n in
    let date = simp to_z-of_z at c.in_ok-date.ensures.value in
    let duration = simp to_z-of_z at c.in_ok-duration.ensures in
    let found = subst (λ (k : ℕ). IsDaysLater k (c.args.n *ℤ months_of c.args.period) (c.args.n *ℤ days_of c.args.period) c.in_ok-date.date) c.date.ensures.value date.1 in
    let same = one_days_later (date_at c.args.start) c.in_ok-date.date later.day _ _ found later.moved in
    c.checked_add.ensures.every r h
    (later_of r (with_date c.args.start later.day) c.replace_date.result (c.args.n *ℤ c.args.period.exact) c.in_ok-duration.duration later.exact
    (c.replace_date.ensures.value ∙ ap (λ (d : ℕ). date_time d (time_at c.args.start)) same) (exact_product c.args.n c.args.period.exact c.duration.result c.in_ok-duration.duration c.duration.ensures duration.1))

pub returns-clause-value : goal.returns-clause-value
returns-clause-value c =
    let n = c.ranges.n in
    let date = simp to_z-of_z at c.in_ok-date.ensures.value in
    let duration = simp to_z-of_z at c.in_ok-duration.ensures in
    let found = subst (λ (k : ℕ). IsDaysLater k (c.args.n *ℤ months_of c.args.period) (c.args.n *ℤ days_of c.args.period) c.in_ok-date.date) c.date.ensures.value date.1 in
    is_later c.args.start _ _ _ c.in_ok-date.date c.replace_date.result c.in_ok-duration.duration c.checked_add.result date.0 found c.replace_date.ensures.value
    (exact_product c.args.n c.args.period.exact c.duration.result c.in_ok-duration.duration c.duration.ensures duration.1) c.checked_add.ensures.value
