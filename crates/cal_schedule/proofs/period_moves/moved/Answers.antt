use Rattle.std.proofs.Common.{subst, ℕ, FitsSigned, rules}
use Rattle.std.specs.Int.{w128}
use Rattle.std.specs.Prelude.{pos, ◌≡◌, ◌+ℤ◌}
use Rattle.std.proofs.lemmas.Int.{to_z-of_z}
use Rattle.cal_schedule.proofs.MonthMoves.{one_later}
use Rattle.cal_schedule.proofs.Periods.{middle_in_range, no_value}
use Rattle.cal_schedule.proofs.period_moves.moved.Goals as goal

pub returns-in_err-months_after-clause-every : goal.returns-in_err-months_after-clause-every
returns-in_err-months_after-clause-every c r h later =
    let fits : FitsSigned w128 c.args.months = search rules in
    let inside = middle_in_range c.args.date r later.middle c.args.months c.args.days c.requires c.months_after.ensures.in_range h later.months_later later.days_later in
    absurd (no_value _ ((simp to_z-of_z at c.in_err-months_after.ensures.every) later.middle inside later.months_later))

pub returns-clause-every : goal.returns-clause-every
returns-clause-every c r h later =
    let fits : FitsSigned w128 c.args.months = search rules in
    let more : FitsSigned w128 c.args.days = search rules in
    let found = simp to_z-of_z at c.in_ok-months_after.ensures.value in
    let same = one_later c.args.date later.middle _ c.args.months later.months_later found.1 in
    (simp to_z-of_z at (c.day_after.ensures.every r h)) (subst (λ (k : ℕ). pos r ≡ pos k +ℤ c.args.days) same later.days_later)
