use Rattle.std.proofs.Common.{refl, subst, arith, ◌≡◌, ◌+◌, ◌-◌, ◌%◌, ℤ, to_z, of_z, w32}
use Rattle.std.proofs.lemmas.Int.{ints}
use Rattle.cal_time.specs.Date.{IsYear, NoDate}
use Rattle.cal_schedule.specs.Weekdays.{IsNthWeekday}
use Rattle.cal_time.specs.Days.{day_with, days_in_month-least}
use Rattle.cal_schedule.specs.WeekdaysLaws.{index-nth}
use Rattle.guide.proofs.bills.labor_day.Goals as goal

-- the first Monday is there: it is one of the first seven days
monday : (y : ℤ) → IsYear y → ¬ NoDate (IsNthWeekday y 9 0 1)
monday y is none =
    let least = days_in_month-least y 9 in
    let first = day_with y 9 1 is (omega arith, omega arith) (omega arith, omega (arith, least)) in
    let day = 1 + (7 - first.day % 7) % 7 in
    let found = day_with y 9 day is (omega arith, omega arith) (omega arith, omega (arith, least)) in
    none found.day found.date (index-nth y 9 first.day 0 1 day found.day first.has found.has (omega arith) (omega arith))

pub unreachable-requires : goal.unreachable-requires
unreachable-requires c =
    let year : to_z w32 (of_z w32 c.args.year) ≡ c.args.year = omega (arith, ints) in
    monday c.args.year c.requires (subst (λ y. NoDate (IsNthWeekday y 9 0 1)) year (c.in-Err.ensures.error.0 refl))
