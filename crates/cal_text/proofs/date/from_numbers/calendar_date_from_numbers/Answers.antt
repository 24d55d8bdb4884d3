use Rattle.std.proofs.Common.{ap, arith, inl, inr, subst, sym, w32}
use Rattle.std.proofs.lemmas.Int.{to_z-of_z}
use Rattle.cal_time.specs.Date.{IsYear}
use Rattle.cal_time.specs.CalendarDay.{CalendarDay}
use Rattle.cal_time.specs.Days.{month_at-range}
use Rattle.cal_time.specs.MonthCycle.{index-below}
use Rattle.cal_text.proofs.date.from_numbers.calendar_date_from_numbers.Goals as goal

pub returns-clause-year : goal.returns-clause-year
returns-clause-year c =
    let below = index-below c.in_ok-try_from.field-0 in
    let year = to_z-of_z w32 c.args.year c.ranges.year in (
      λ r. ((omega (arith, c.in_ok-try_from.ensures), omega (arith, c.in_ok-try_from.ensures)), subst (λ y. IsYear y → ⊥) year (c.from_calendar_date.ensures.year.0 r)),
      λ h. c.from_calendar_date.ensures.year.1 (subst (λ y. IsYear y → ⊥) (sym year) h.1),
    )

pub returns-in_err-try_from-clause-every : goal.returns-in_err-try_from-clause-every
returns-in_err-try_from-clause-every c n date e =
    let range = month_at-range n in
    let month = ap (λ (d : CalendarDay). d.month) e in
    absurd (elim c.in_err-try_from.ensures.1 [ inl zero ↦ omega (arith, month, range.0, zero) | inr more ↦ omega (arith, month, range.1, more) ])
