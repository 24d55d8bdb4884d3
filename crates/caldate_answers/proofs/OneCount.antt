-- There is one number of a unit from one moment to another.
use Rattle.std.proofs.Common.{◌≡◌, ℕ, sym, ap, ◌∙◌, ℤ, pos}
use Rattle.cal_time.specs.SignedDuration.{cut}
use Rattle.cal_datetime.specs.OffsetDateTime.{LocalAndOffset}
use Rattle.cal_schedule.specs.Workdays.{WorkWeek}
use Rattle.cal_schedule.proofs.OneAnswer.{until-one}
use Rattle.caldate_answers.specs.Counts.{AreMonths, IsCount}
use Rattle.caldate_answers.specs.declared.request.TimeUnit.{TimeUnit}
use Rattle.caldate_answers.specs.declared.request.TimeUnit.TheVariants.{Years, Months, Weeks, Days, Workdays, Hours, Minutes, Seconds}

months : (n t : ℕ) (y z : ℤ) → AreMonths n t y → AreMonths n t z → y ≡ z
unfolding AreMonths
months n t y z h k = until-one n t _ _ y z h.0 h.1 k.0 k.1

pub one_count : (workdays : WorkWeek) (unit : TimeUnit) (from to : LocalAndOffset) (y z : ℤ) → IsCount workdays unit from to y → IsCount workdays unit from to z → y ≡ z
one_count workdays Years from to y z h k = h.2 ∙ ap (λ m. cut m (pos 12)) (months _ _ h.0 k.0 h.1 k.1) ∙ sym k.2
one_count workdays Months from to y z h k = months _ _ y z h k
one_count workdays Workdays from to y z h k = h ∙ sym k
one_count workdays Weeks from to y z h k = h ∙ sym k
one_count workdays Days from to y z h k = h ∙ sym k
one_count workdays Hours from to y z h k = h ∙ sym k
one_count workdays Minutes from to y z h k = h ∙ sym k
one_count workdays Seconds from to y z h k = h ∙ sym k
