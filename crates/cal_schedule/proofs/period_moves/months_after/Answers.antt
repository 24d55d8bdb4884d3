use Rattle.std.proofs.Common.{◌≡◌, ap, sym, subst, arith, ℕ, pos}
use Rattle.std.specs.Prelude.{Some}
use Rattle.std.proofs.lemmas.Int.{ints, to_z-of_z}
use Rattle.cal_schedule.specs.Months.{IsMonthsLater}
use Rattle.cal_schedule.proofs.MonthMoves.{one_later}
use Rattle.cal_schedule.proofs.Periods.{months_fit}
use Rattle.cal_schedule.proofs.Untils.{no_months}
use Rattle.cal_schedule.proofs.period_moves.months_after.Goals as goal

pub returns-then-months-eq0-clause-every : goal.returns-then-months-eq0-clause-every
returns-then-months-eq0-clause-every c r h later =
    let zero : c.args.months ≡ pos 0 = omega (arith, ints) in
    let own = subst (λ z. IsMonthsLater c.args.date z r) zero later in
    ap (λ (n : ℕ). Some n) (one_later c.args.date c.args.date r (pos 0) (no_months c.args.date) own)

pub returns-then-months-eq0-clause-value : goal.returns-then-months-eq0-clause-value
returns-then-months-eq0-clause-value c =
    let zero : c.args.months ≡ pos 0 = omega (arith, ints) in
    (c.to_julian_day.ensures.in_range, subst (λ z. IsMonthsLater c.args.date z c.args.date) (sym zero) (no_months c.args.date))

pub returns-in_err-narrow-clause-every : goal.returns-in_err-narrow-clause-every
returns-in_err-narrow-clause-every c r h later =
    let m = c.ranges.months in
    let f = simp to_z-of_z at c.in_err-narrow.ensures in
    absurd (f (months_fit c.args.date r c.args.months c.to_julian_day.ensures.in_range h later))
