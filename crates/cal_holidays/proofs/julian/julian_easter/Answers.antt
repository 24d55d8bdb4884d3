use Rattle.std.proofs.Common.{Ok, refl, ap, ◌∙◌, arith, w32}
use Rattle.std.proofs.lemmas.Int.{ints, to_z-of_z}
use Rattle.std.proofs.lemmas.Bool.Decides.{nat_tests}
use Rattle.cal_time.specs.Date.{IsYear}
use Rattle.cal_holidays.specs.Epacts.{julian_full_moon}
use Rattle.cal_holidays.proofs.JulianDays.{easter-is, is_easter, easter-one}
use Rattle.cal_holidays.proofs.julian.julian_easter.Goals as goal

pub returns-then-sunday-lt-DAYS_BEFORE_RANGE-clause-every : goal.returns-then-sunday-lt-DAYS_BEFORE_RANGE-clause-every
returns-then-sunday-lt-DAYS_BEFORE_RANGE-clause-every c n date is =
    let table = rw (to_z-of_z w32 _ c.ranges.year) at c.table_year-table.ensures.value in
    let moon = c.julian_full_moon.ensures.value ∙ ap julian_full_moon table in
    absurd (grind (arith, nat_tests, table, moon, easter-is c.args.year n is))

pub returns-then-sunday-lt-DAYS_BEFORE_RANGE-clause-error : goal.returns-then-sunday-lt-DAYS_BEFORE_RANGE-clause-error
returns-then-sunday-lt-DAYS_BEFORE_RANGE-clause-error c = (
  (λ _ n date is. let table = rw (to_z-of_z w32 _ c.ranges.year) at c.table_year-table.ensures.value in
      let moon = c.julian_full_moon.ensures.value ∙ ap julian_full_moon table in
      grind (arith, nat_tests, table, moon, easter-is c.args.year n is)),
  (λ _. refl),
)

pub returns-in-Some-clause-value : goal.returns-in-Some-clause-value
returns-in-Some-clause-value c =
    let table = rw (to_z-of_z w32 _ c.ranges.year) at c.table_year-table.ensures.value in
    let moon = c.julian_full_moon.ensures.value ∙ ap julian_full_moon table in
    let is_year : IsYear c.args.year = (grind (arith, ints, nat_tests), grind (arith, ints, nat_tests)) in (
      omega (arith, c.in-Some.ensures, c.from.ensures),
      is_easter c.args.year c.in-Some.date is_year (grind (arith, nat_tests, table, moon, c.in-Some.ensures, c.from.ensures)),
    )

pub returns-in-Some-clause-every : goal.returns-in-Some-clause-every
returns-in-Some-clause-every c n date is = ap Ok (easter-one c.args.year _ n (returns-in-Some-clause-value c).1 is)

pub returns-in-Some-clause-error : goal.returns-in-Some-clause-error
returns-in-Some-clause-error c =
    let value = returns-in-Some-clause-value c in
    ((λ e. absurd (cc)), (λ none. absurd (none c.in-Some.date value.0 value.1)))

pub returns-in-None-clause-error : goal.returns-in-None-clause-error
returns-in-None-clause-error c = (
  (λ _ n date is. let table = rw (to_z-of_z w32 _ c.ranges.year) at c.table_year-table.ensures.value in
      let moon = c.julian_full_moon.ensures.value ∙ ap julian_full_moon table in
      grind (arith, nat_tests, table, moon, easter-is c.args.year n is, c.in-None.ensures, c.from.ensures)),
  (λ _. refl),
)

pub returns-in-None-clause-every : goal.returns-in-None-clause-every
returns-in-None-clause-every c n date is = absurd ((returns-in-None-clause-error c).0 refl n date is)
