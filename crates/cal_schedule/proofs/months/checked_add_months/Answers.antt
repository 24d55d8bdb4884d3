use Rattle.std.proofs.Common.{ap, arith, Some}
use Rattle.std.proofs.lemmas.Int.{ints}
use Rattle.cal_schedule.proofs.MonthMoves.{one_later, IsMonthNumber-date}
use Rattle.cal_schedule.proofs.months.checked_add_months.Goals as goal
use Rattle.cal_schedule.proofs.months.checked_add_months.Goals.{then-index-lt0-via-then-index-lt0, then-index-lt0-via-else-index-lt0+then-index-ge-MONTHS}

pub returns-then-index-lt0-clause-every : goal.returns-then-index-lt0-clause-every
returns-then-index-lt0-clause-every c n h later =
    let in_range = IsMonthNumber-date n h in
    elim c.then-index-lt0.branch [
      | then-index-lt0-via-then-index-lt0 w ↦ absurd (omega (arith, ints))
      | then-index-lt0-via-else-index-lt0+then-index-ge-MONTHS w ↦ absurd (omega (arith, ints))
    ]

pub returns-clause-every : goal.returns-clause-every
returns-clause-every c n h later =
    ap Some (one_later c.args.date c.clamped_date_in_month.result n c.args.months (record {
      month = omega (arith, ints);
      day = omega arith;
    }) later)
