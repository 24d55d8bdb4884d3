use Rattle.std.proofs.Common.{refl, arith}
use Rattle.std.proofs.lemmas.Int.{ints}
use Rattle.cal_schedule.proofs.WeekdaysOfMonths.{year_of}
use Rattle.cal_schedule.proofs.weekdays.nth_weekday_of_month.Goals as goal

pub returns-then-not-is_year-clause-every : goal.returns-then-not-is_year-clause-every
returns-then-not-is_year-clause-every c k h is =
    let year = year_of _ _ _ k h is.is in
    let is_year = c.is_year.ensures.1 (omega (arith, ints, year.0), omega (arith, ints, year.1)) in
    absurd (cc)

pub returns-then-not-is_year-clause-error : goal.returns-then-not-is_year-clause-error
returns-then-not-is_year-clause-error c = (
  λ _ k h is. let year = year_of _ _ _ k h is.is in
      let is_year = c.is_year.ensures.1 (omega (arith, ints, year.0), omega (arith, ints, year.1)) in cc,
  λ _. refl,
)
