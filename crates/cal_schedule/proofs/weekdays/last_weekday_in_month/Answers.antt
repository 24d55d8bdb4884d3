use Rattle.std.proofs.Common.{◌≡◌, ◌∙◌, ◌+◌, ◌-◌, ◌%◌, ap, subst, arith, inl, inr, to_z, of_z, w32}
use Rattle.std.proofs.lemmas.Int.{ints}
use Rattle.cal_time.specs.CalendarDay.{calendar_day}
use Rattle.cal_time.specs.Date.{weekday_at}
use Rattle.cal_time.specs.Lengths.{days_in_month}
use Rattle.cal_time.specs.Month.{number}
use Rattle.cal_time.specs.Weekday.{index}
use Rattle.cal_time.specs.WeekdayCycle.{index-below}
use Rattle.cal_schedule.specs.Weekdays.{IsLastWeekday}
use Rattle.cal_schedule.specs.WeekdaysLaws.{last-index}
use Rattle.cal_schedule.proofs.weekdays.last_weekday_in_month.Goals as goal

pub unreachable-requires : goal.unreachable-requires
unreachable-requires c =
    let length = c.days_in_month.ensures in
    elim c.in-Err.ensures.error_kind [
      | inl year ↦ c.in-Err.ensures.year.0 year (omega (arith, ints, c.requires.0), omega (arith, ints, c.requires.1))
      | inr day ↦ (c.in-Err.ensures.day.0 day).1 (omega (arith, length.range, c.days_to_weekday.ensures), omega (arith, length.value, c.days_to_weekday.ensures))
    ]

pub returns-clause-value : goal.returns-clause-value
returns-clause-value c =
    let year : to_z w32 (of_z w32 c.args.year) ≡ c.args.year = omega (arith, ints) in
    let day : c.days_in_month.result - c.days_to_weekday.result
    ≡ days_in_month (to_z w32 (of_z w32 c.args.year)) (number c.args.month) - (weekday_at c.last_in_month-last.result + 7 - index c.args.weekday) % 7 =
    omega (arith, c.days_in_month.ensures.value, c.days_to_weekday.ensures, c.weekday.ensures.value) in
    let last = last-index _ _ _ _ _ c.last_in_month-last.ensures.range c.in-Ok.ensures.value.0 (index-below c.args.weekday) c.last_in_month-last.ensures.value
    (c.in-Ok.ensures.value.1 ∙ ap (calendar_day (to_z w32 (of_z w32 c.args.year)) (number c.args.month)) day) in
    subst (λ y. IsLastWeekday y (number c.args.month) (index c.args.weekday) c.in-Ok.date) year last
