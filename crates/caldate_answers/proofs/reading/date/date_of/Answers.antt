use Rattle.std.proofs.Common.{ap, arith, inl, inr}
use Rattle.cal_time.specs.CalendarDay.{CalendarDay}
use Rattle.cal_time.specs.Days.{month_at-range}
use Rattle.caldate_answers.proofs.reading.date.date_of.Goals as goal

pub returns-in_err-try_from-clause-every : goal.returns-in_err-try_from-clause-every
returns-in_err-try_from-clause-every c n date e =
    let range = month_at-range n in
    let month = ap (λ (d : CalendarDay). d.month) e in
    absurd (elim c.in_err-try_from.ensures.1 [ inl zero ↦ omega (arith, month, range.0, zero) | inr more ↦ omega (arith, month, range.1, more) ])
