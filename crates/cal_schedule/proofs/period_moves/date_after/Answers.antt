use Rattle.std.proofs.Common.{sym, subst, ℕ, ℤ, pos, ◌*ℤ◌}
use Rattle.std.specs.Prelude.{IfSome}
use Rattle.cal_time.specs.Date.{IsDate}
use Rattle.cal_schedule.specs.Period.{days_of, months_of, IsDaysLater}
use Rattle.cal_schedule.proofs.Periods.{once}
use Rattle.cal_schedule.proofs.period_moves.date_after.Goals as goal

pub returns-clause-every : goal.returns-clause-every
returns-clause-every c r h later =
    let p = c.args.period in
    c.nth_date.ensures.every r h
    (subst (λ (m : ℤ). IsDaysLater c.args.date m (pos 1 *ℤ days_of p) r) (sym (once (months_of p)))
    (subst (λ (d : ℤ). IsDaysLater c.args.date (months_of p) d r) (sym (once (days_of p))) later))

pub returns-clause-value : goal.returns-clause-value
returns-clause-value c =
    let p = c.args.period in
    subst (λ (m : ℤ). IfSome c.nth_date.result (λ (r : ℕ). IsDate r × IsDaysLater c.args.date m (days_of p) r)) (once (months_of p))
    (subst (λ (d : ℤ). IfSome c.nth_date.result (λ (r : ℕ). IsDate r × IsDaysLater c.args.date (pos 1 *ℤ months_of p) d r)) (once (days_of p)) c.nth_date.ensures.value)
