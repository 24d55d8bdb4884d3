use Rattle.std.proofs.Common.{sym, ap, ◌∙◌, arith, min}
use Rattle.std.proofs.lemmas.Int.{ints}
use Rattle.cal_time.specs.Lengths.{days_in_month}
use Rattle.cal_schedule.proofs.MonthMoves.{has_index}
use Rattle.cal_schedule.proofs.months.clamped_date_in_month.Goals as goal

pub returns-clause-month : goal.returns-clause-month
returns-clause-month c = has_index _ _ _ _ _ c.from_month_number_clamped.ensures.value (omega (arith, ints))

pub returns-clause-day : goal.returns-clause-day
returns-clause-day c =
    let day = c.from_month_number_clamped.ensures.value in
    ap (λ n. n.day) day ∙ sym (ap (λ n. min c.args.day (days_in_month n.year n.month)) day)
