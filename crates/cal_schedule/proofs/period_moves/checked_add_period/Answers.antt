use Rattle.std.proofs.Common.{subst, ℤ, pos, ◌*ℤ◌}
use Rattle.cal_schedule.specs.Period.{days_of, months_of, IsDateAfter}
use Rattle.cal_schedule.proofs.Periods.{once}
use Rattle.cal_schedule.proofs.period_moves.checked_add_period.Goals as goal

pub returns : goal.returns
returns c =
    let p = c.args.period in
    subst (λ (m : ℤ). IsDateAfter c.args.date m (days_of p) p.exact c.nth_period.result) (once (months_of p))
    (subst (λ (d : ℤ). IsDateAfter c.args.date (pos 1 *ℤ months_of p) d p.exact c.nth_period.result) (once (days_of p)) c.nth_period.ensures)
