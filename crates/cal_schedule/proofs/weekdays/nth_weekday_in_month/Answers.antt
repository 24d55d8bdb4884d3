use Rattle.std.proofs.Common.{◌≡◌, ◌∙◌, ◌+◌, ◌-◌, ◌*◌, ap, subst, refl, arith, to_z, of_z, w32}
use Rattle.std.proofs.lemmas.Int.{ints}
use Rattle.cal_time.specs.CalendarDay.{calendar_day}
use Rattle.cal_time.specs.Days.{day_with}
use Rattle.cal_time.specs.Date.{day_of_month_at}
use Rattle.cal_time.specs.Laws.{weekday_at-is}
use Rattle.cal_time.specs.Month.{number}
use Rattle.cal_time.specs.Weekday.{index}
use Rattle.cal_time.specs.MonthCycle as months
use Rattle.cal_time.specs.WeekdayCycle.{index-below}
use Rattle.cal_schedule.specs.Weekdays.{IsNthWeekday}
use Rattle.cal_schedule.proofs.Ends.{days_in_month-least}
use Rattle.cal_schedule.specs.WeekdaysLaws.{index-nth}
use Rattle.cal_schedule.proofs.WeekdaysOfMonths.{nth-index}
use Rattle.cal_schedule.proofs.weekdays.nth_weekday_in_month.Goals as goal
use Rattle.cal_schedule.proofs.weekdays.nth_weekday_in_month.Goals.{then-n-eq0-via-then-n-eq0, then-n-eq0-via-else-n-eq0+then-n-gt5}

pub returns-then-n-eq0-clause-every : goal.returns-then-n-eq0-clause-every
returns-then-n-eq0-clause-every c k h is =
    let below = months.index-below c.args.month in
    let first = day_with c.args.year (number c.args.month) 1 c.requires (omega arith, omega (arith, below)) (omega arith, omega (arith, days_in_month-least c.args.year (number c.args.month))) in
    let at = nth-index _ _ first.day (index c.args.weekday) c.args.n k first.has (index-below c.args.weekday) is in
    elim c.then-n-eq0.branch [
      | then-n-eq0-via-then-n-eq0 w ↦ absurd (omega (arith, at.1.least))
      | then-n-eq0-via-else-n-eq0+then-n-gt5 w ↦ absurd (omega (arith, at.1.most))
    ]

pub returns-in-Ok-clause-every : goal.returns-in-Ok-clause-every
returns-in-Ok-clause-every c k h is =
    let year : c.args.year ≡ to_z w32 (of_z w32 c.args.year) = omega (arith, ints) in
    let there = subst (λ y. IsNthWeekday y (number c.args.month) (index c.args.weekday) c.args.n k) year is in
    let at = nth-index _ _ _ (index c.args.weekday) c.args.n k c.first_in_month-first.ensures.value (index-below c.args.weekday) there in
    let day : day_of_month_at k ≡ 7 * c.args.n - 6 + c.days_to_weekday.result = omega (arith, at.1.day, c.days_to_weekday.ensures, c.weekday.ensures.value, weekday_at-is c.first_in_month-first.result) in
    let e = c.in-Ok.ensures.every k h (at.0 ∙ ap (calendar_day (to_z w32 (of_z w32 c.args.year)) (number c.args.month)) day) in
    cc

pub returns-in-Ok-clause-value : goal.returns-in-Ok-clause-value
returns-in-Ok-clause-value c =
    let has = c.in-Ok.ensures.value in
    let year : to_z w32 (of_z w32 c.args.year) ≡ c.args.year = omega (arith, ints) in
    let there = index-nth _ _ c.first_in_month-first.result (index c.args.weekday) c.args.n _ c.in-Ok.date c.first_in_month-first.ensures.value has.1 (index-below c.args.weekday)
    (omega (arith, c.days_to_weekday.ensures, c.weekday.ensures.value, weekday_at-is c.first_in_month-first.result)) in
    (has.0, subst (λ y. IsNthWeekday y (number c.args.month) (index c.args.weekday) c.args.n c.in-Ok.date) year there)

pub returns-in-Err-clause-every : goal.returns-in-Err-clause-every
returns-in-Err-clause-every c k h is =
    let year : c.args.year ≡ to_z w32 (of_z w32 c.args.year) = omega (arith, ints) in
    let there = subst (λ y. IsNthWeekday y (number c.args.month) (index c.args.weekday) c.args.n k) year is in
    let at = nth-index _ _ _ (index c.args.weekday) c.args.n k c.first_in_month-first.ensures.value (index-below c.args.weekday) there in
    let day : day_of_month_at k ≡ 7 * c.args.n - 6 + c.days_to_weekday.result = omega (arith, at.1.day, c.days_to_weekday.ensures, c.weekday.ensures.value, weekday_at-is c.first_in_month-first.result) in
    absurd (c.in-Err.ensures.error.0 refl k h (at.0 ∙ ap (calendar_day (to_z w32 (of_z w32 c.args.year)) (number c.args.month)) day))
