use Rattle.std.proofs.Common.{◌≡◌, ◌∙◌, ap, slice_get}
use Rattle.std.proofs.lemmas.Bool.Decides.{nat_tests}
use Rattle.std.proofs.Common.{arith}
use Rattle.cal_time.specs.Date.{weekday_at}
use Rattle.cal_time.specs.Weekday.{index}
use Rattle.cal_time.specs.WeekdayCycle.{index-below}
use Rattle.cal_schedule.proofs.WeekdaysOfMonths.{from-here, from-next, next-index}
use Rattle.cal_schedule.proofs.weekdays.on_or_after.Goals as goal

pub returns-then-eq-clause-value : goal.returns-then-eq-clause-value
returns-then-eq-clause-value c =
    let same : weekday_at c.args.date ≡ index c.args.weekday = grind (arith, nat_tests, c.eq.ensures, c.if-eq.true, c.weekday.ensures.value) in
    from-here _ _ c.weekday.ensures.in_range same

pub returns-else-eq-clause-value : goal.returns-else-eq-clause-value
returns-else-eq-clause-value c =
    let other : weekday_at c.args.date ≡ index c.args.weekday → ⊥ = grind (arith, nat_tests, c.eq.ensures, c.if-eq.false, c.weekday.ensures.value) in
    c.checked_next_occurrence.ensures.value ∙ ap (λ days. slice_get days 0) (from-next _ _ c.weekday.ensures.in_range other)

pub returns-else-eq-clause-index : goal.returns-else-eq-clause-index
returns-else-eq-clause-index c =
    let other : weekday_at c.args.date ≡ index c.args.weekday → ⊥ = grind (arith, nat_tests, c.eq.ensures, c.if-eq.false, c.weekday.ensures.value) in
    next-index _ _ _ (index-below c.args.weekday) other c.checked_next_occurrence.ensures.value
