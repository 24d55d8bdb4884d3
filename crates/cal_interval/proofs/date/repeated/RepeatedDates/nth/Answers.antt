use Rattle.std.proofs.Common.{ℤ, ◌*ℤ◌, subst, sym, w32}
use Rattle.std.proofs.lemmas.Int.{to_z-of_z}
use Rattle.cal_schedule.specs.Period.{IsDaysLater, days_of, months_of}
use Rattle.cal_interval.proofs.date.repeated.RepeatedDates.nth.Goals as goal

pub returns-clause-every : goal.returns-clause-every
returns-clause-every c r date occurs later =
    let s = c.args.self in
    c.nth_date.ensures.every r date
    (subst (λ (x : ℤ). IsDaysLater s.start (x *ℤ months_of s.period) (x *ℤ days_of s.period) r) (sym (to_z-of_z w32 c.args.n c.ranges.n)) later)
