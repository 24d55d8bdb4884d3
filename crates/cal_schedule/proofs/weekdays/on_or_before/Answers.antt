use Rattle.std.proofs.Common.{◌≡◌, ◌∙◌, ap, slice_get}
use Rattle.std.proofs.lemmas.Bool.Decides.{nat_tests}
use Rattle.std.proofs.Common.{arith}
use Rattle.cal_time.specs.Date.{weekday_at}
use Rattle.cal_time.specs.Weekday.{index}
use Rattle.cal_time.specs.WeekdayCycle.{index-below}
use Rattle.cal_schedule.proofs.WeekdaysOfMonths.{upto-here, upto-previous, previous-index}
use Rattle.cal_schedule.proofs.weekdays.on_or_before.Goals as goal

pub returns-then-eq-clause-value : goal.returns-then-eq-clause-value
returns-then-eq-clause-value c =
    let same : weekday_at c.args.date ≡ index c.args.weekday = grind (arith, nat_tests, c.eq.ensures, c.if-eq.true, c.weekday.ensures.value) in
    upto-here _ _ same

pub returns-else-eq-clause-value : goal.returns-else-eq-clause-value
returns-else-eq-clause-value c =
    let other : weekday_at c.args.date ≡ index c.args.weekday → ⊥ = grind (arith, nat_tests, c.eq.ensures, c.if-eq.false, c.weekday.ensures.value) in
    c.checked_prev_occurrence.ensures.value ∙ ap (λ days. slice_get days 0) (upto-previous _ _ other)

pub returns-else-eq-clause-index : goal.returns-else-eq-clause-index
returns-else-eq-clause-index c =
    let other : weekday_at c.args.date ≡ index c.args.weekday → ⊥ = grind (arith, nat_tests, c.eq.ensures, c.if-eq.false, c.weekday.ensures.value) in
    previous-index _ _ _ (index-below c.args.weekday) other c.checked_prev_occurrence.ensures.value
