use Rattle.std.proofs.Common.{◌≡◌, ◌∙◌, sym, ap, arith, true, false, to_z, of_z, w32}
use Rattle.std.proofs.lemmas.Int.{ints}
use Rattle.cal_time.specs.Date.{year_at}
use Rattle.cal_time.specs.Lengths.{is_leap_year}
use Rattle.cal_schedule.proofs.MoneyDays.{days-in_leap, days-in_other}
use Rattle.cal_schedule.proofs.year_fraction.leap_days_before.Goals as goal

pub returns-then-is_leap_year : goal.returns-then-is_leap_year
returns-then-is_leap_year c =
    let year : year_at c.args.date ≡ to_z w32 (of_z w32 c.year.result) = omega (arith, ints) in
    let leap : is_leap_year (year_at c.args.date) ≡ true = ap is_leap_year year ∙ sym c.is_leap_year.ensures ∙ c.if-is_leap_year.true in
    let days = days-in_leap c.args.date c.years_before-years.result c.years_before-years.ensures.in_range c.years_before-years.ensures.value leap in
    omega (arith, days)

pub returns-else-is_leap_year : goal.returns-else-is_leap_year
returns-else-is_leap_year c =
    let year : year_at c.args.date ≡ to_z w32 (of_z w32 c.year.result) = omega (arith, ints) in
    let not : is_leap_year (year_at c.args.date) ≡ false = ap is_leap_year year ∙ sym c.is_leap_year.ensures ∙ c.if-is_leap_year.false in
    let days = days-in_other c.args.date c.years_before-years.result c.years_before-years.ensures.in_range c.years_before-years.ensures.value not in
    omega (arith, days)
