use Rattle.std.proofs.Common.{ap, arith, inl, inr}
use Rattle.cal_time.specs.Days.{month_at-range}
use Rattle.cal_format.proofs.date_parts.calendar_date.Goals as goal

pub returns-in-Err-clause-every : goal.returns-in-Err-clause-every
returns-in-Err-clause-every c n date has =
    let range = month_at-range n in
    elim c.in-Err.ensures.1 [
      | inl none ↦ absurd (omega (arith, range.0, ap (λ d. d.month) has))
      | inr many ↦ absurd (omega (arith, range.1, ap (λ d. d.month) has))
    ]
