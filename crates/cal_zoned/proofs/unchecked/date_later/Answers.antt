use Rattle.std.proofs.Common.{◌≡◌, ◌∙◌, ap, sym, subst, ℕ, ℤ, ◌*ℤ◌}
use Rattle.std.proofs.lemmas.Int.{to_z-of_z}
use Rattle.cal_datetime.specs.DateTime.{date_at, time_at, date_time, with_date}
use Rattle.cal_schedule.specs.Period.{days_of, months_of, IsDaysLater}
use Rattle.cal_schedule.proofs.Periods.{no_value, one_days_later}
use Rattle.cal_zoned.specs.Period.{IsMovedThen}
use Rattle.cal_zoned.specs.Unchecked.{result_in}
use Rattle.cal_zoned.proofs.ZoneResults.{if_ok_in}
use Rattle.cal_zoned.proofs.unchecked.date_later.Goals as goal

pub returns-in-Some-clause-moved : goal.returns-in-Some-clause-moved
returns-in-Some-clause-moved c order d h later =
    let n = c.ranges.n in
    let s = c.ranges.nanoseconds in
    let found = simp to_z-of_z at c.in-Some.ensures.value in
    let then = simp to_z-of_z at (c.resolved_then.ensures order) in
    let local = c.args.moment.local in
    let own = subst (λ (k : ℕ). IsDaysLater k (c.args.n *ℤ months_of c.args.period) (c.args.n *ℤ days_of c.args.period) c.in-Some.date) c.date.ensures.value found.1 in
    let same : c.in-Some.date ≡ d = one_days_later (date_at local) _ _ _ _ own later in
    let reading : c.replace_date-reading.result ≡ with_date local d =
    c.replace_date-reading.ensures.value ∙ ap (λ (z : ℤ). date_time c.in-Some.date (time_at z)) c.local.ensures.value ∙ ap (λ (k : ℕ). date_time k (time_at local)) same in
    subst (λ (z : ℤ). IsMovedThen c.args.policy c.args.zone.now z c.args.nanoseconds (result_in c.args.zone.now c.resolved_then.result)) reading then

pub returns-in-Some-clause-none : goal.returns-in-Some-clause-none
returns-in-Some-clause-none c none =
    let n = c.ranges.n in
    let found = simp to_z-of_z at c.in-Some.ensures.value in
    let own = subst (λ (k : ℕ). IsDaysLater k (c.args.n *ℤ months_of c.args.period) (c.args.n *ℤ days_of c.args.period) c.in-Some.date) c.date.ensures.value found.1 in
    absurd (none c.in-Some.date found.0 own)

pub returns-in-None-clause-moved : goal.returns-in-None-clause-moved
returns-in-None-clause-moved c order d h later =
    let n = c.ranges.n in
    let every = simp to_z-of_z at c.in-None.ensures.every in
    absurd (no_value d (every d h (subst (λ (k : ℕ). IsDaysLater k (c.args.n *ℤ months_of c.args.period) (c.args.n *ℤ days_of c.args.period) d) (sym c.date.ensures.value) later)))

pub returns-in-Some-clause-is : goal.returns-in-Some-clause-is
returns-in-Some-clause-is c =
    let n = c.ranges.n in
    let found = simp to_z-of_z at c.in-Some.ensures.value in
    let own = subst (λ (k : ℕ). IsDaysLater k (c.args.n *ℤ months_of c.args.period) (c.args.n *ℤ days_of c.args.period) c.in-Some.date) c.date.ensures.value found.1 in
    if_ok_in c.resolved_then.result (c.in-Some.date, found.0, own)
