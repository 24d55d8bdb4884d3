use Rattle.std.proofs.Common.{ap, subst, arith, Some, pos, ◌*ℤ◌}
use Rattle.std.proofs.lemmas.Int.{ints}
use Rattle.cal_time.specs.Date.{IsYear}
use Rattle.cal_time.specs.Days.{year_at-range}
use Rattle.cal_schedule.specs.Months.{IsMonthsLater}
use Rattle.cal_schedule.proofs.MonthMoves.{one_later, years_later, years-kept}
use Rattle.cal_schedule.proofs.months.checked_add_years.Goals as goal
use Rattle.cal_schedule.proofs.months.checked_add_years.Goals.{After-from_month_index_clamped, then-year-from-via-then-year-from, then-year-from-via-else-year-from+then-year-from-2}

pub returns-then-year-from-clause-none : goal.returns-then-year-from-clause-none
returns-then-year-from-clause-none c is =
    elim c.then-year-from.branch [
      | then-year-from-via-then-year-from w ↦ omega (arith, ints)
      | then-year-from-via-else-year-from+then-year-from-2 w ↦ omega (arith, ints)
    ]

pub returns-then-year-from-clause-every : goal.returns-then-year-from-clause-every
returns-then-year-from-clause-every c n h later =
    absurd (returns-then-year-from-clause-none c (subst IsYear (years-kept c.args.date n c.args.years later).0 (year_at-range n h)))

later : (c : After-from_month_index_clamped) → IsMonthsLater c.args.date (pos 12 *ℤ c.args.years) c.from_month_index_clamped.result
later c =
    let month = c.month_index_and_day-month in
    years_later c.args.date c.from_month_index_clamped.result _ c.args.years _ _ (omega (arith, ints, c.year.ensures.value)) month.ensures.month month.ensures.day c.from_month_index_clamped.ensures.value

pub returns-clause-every : goal.returns-clause-every
returns-clause-every c n h other = ap Some (one_later c.args.date c.from_month_index_clamped.result n _ (later c) other)

pub returns-clause-value : goal.returns-clause-value
returns-clause-value c = (c.from_month_index_clamped.ensures.range, later c)

pub returns-clause-parts : goal.returns-clause-parts
returns-clause-parts c = years-kept c.args.date c.from_month_index_clamped.result c.args.years (later c)
