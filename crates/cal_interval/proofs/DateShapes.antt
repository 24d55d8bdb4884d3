-- The shape of an interval of dates.
use Rattle.std.proofs.Common.{◌≡◌, ℕ, List, inl, inr, refl}
use Rattle.cal_text.specs.Shape.{Date, End}
use Rattle.cal_text.specs.DateForms.{HasForm}
use Rattle.cal_text.specs.declared.date_numbers.DateNumbers.{DateNumbers}
use Rattle.cal_text.proofs.FormShapes.{date_form}
use Rattle.cal_text.proofs.DigitForms.{run}
use Rattle.cal_text.proofs.Forms.{led, both, either, nothing, whole}
use Rattle.cal_text.proofs.Positions.{IsShapeOf, AreShapesOf}
use Rattle.cal_duration.proofs.Levels.{number_value, some, step}
use Rattle.cal_duration.proofs.Shapes.{days_level, seconds_level}
use Rattle.cal_interval.specs.declared.date.numbers.DateIntervalNumbers.{DateIntervalNumbers}
use Rattle.cal_interval.specs.declared.date.numbers.DateIntervalNumbers.TheVariants.{StartAndEnd, StartAndPeriod, PeriodAndEnd}
use Rattle.cal_interval.specs.Form.{DateNumbersFit, HasDateInterval, HasRepeated}
use Rattle.cal_interval.specs.IntervalShape.{Interval, Repeated}
use Rattle.cal_interval.proofs.Shapes.{Ends, HasEnds, IsRaw, IsRawRepeated, interval_shape, repeated_shape}

raw_interval : (more : ℕ) → IsShapeOf (IsRaw HasForm more) (Interval Date more End)
raw_interval more =
    let clock = some (step 72 (step 77 (seconds_level more))) in
    let date = some (step 89 (step 77 (step 87 (days_level more)))) in
    let body = either 84 0 (led 84 clock) (both date (either 84 0 (led 84 clock) nothing)) in
    whole (either 80 0 (led 80 (both body (led 47 date_form))) (both date_form (led 47 (either 80 0 (led 80 body) date_form)))) refl

to : Ends DateNumbers → DateIntervalNumbers
to (inl v) = PeriodAndEnd v.0 v.1
to (inr (inl v)) = StartAndPeriod v.0 v.1
to (inr (inr v)) = StartAndEnd v.0 v.1

from : DateIntervalNumbers → Ends DateNumbers
from (StartAndEnd a b) = inr (inr (a, b))
from (StartAndPeriod a p) = inr (inl (a, p))
from (PeriodAndEnd p b) = inl (p, b)

same : (m : DateIntervalNumbers) → to (from m) ≡ m
unfolding to from
same (StartAndEnd a b) = refl
same (StartAndPeriod a p) = refl
same (PeriodAndEnd p b) = refl

forth : (bytes : List ℕ) (e : Ends DateNumbers) → HasEnds HasForm bytes e → HasDateInterval bytes (to e)
unfolding to
forth bytes (inl v) h = h
forth bytes (inr (inl v)) h = h
forth bytes (inr (inr v)) h = h

back : (bytes : List ℕ) (m : DateIntervalNumbers) → HasDateInterval bytes m → HasEnds HasForm bytes (from m)
unfolding from
back bytes (StartAndEnd a b) h = h
back bytes (StartAndPeriod a p) h = h
back bytes (PeriodAndEnd p b) h = h

pub date_interval_shape : AreShapesOf HasDateInterval (λ more. Interval Date more End)
date_interval_shape = interval_shape HasForm HasDateInterval Date to from same forth back raw_interval

-- The numbers of a text fit.
pub fits : (bytes : List ℕ) (m : DateIntervalNumbers) → HasDateInterval bytes m → DateNumbersFit m
fits bytes (StartAndEnd a b) h = (h.first.form, h.second.form)
fits bytes (StartAndPeriod a p) h = h.first.form
fits bytes (PeriodAndEnd p b) h = h.second.form

-- ---- a repeated interval
raw_repeated : (more : ℕ) → IsShapeOf (IsRawRepeated HasForm more) (Repeated Date more End)
raw_repeated more =
    let clock = some (step 72 (step 77 (seconds_level more))) in
    let date = some (step 89 (step 77 (step 87 (days_level more)))) in
    let body = either 84 0 (led 84 clock) (both date (either 84 0 (led 84 clock) nothing)) in
    let interval = led 47 (either 80 0 (led 80 (both body (led 47 date_form))) (both date_form (led 47 (either 80 0 (led 80 body) date_form)))) in
    whole (led 82 (either 48 9 (both (run 1 more number_value) interval) interval)) refl

pub repeated_dates_shape : AreShapesOf (HasRepeated HasDateInterval) (λ more. Repeated Date more End)
repeated_dates_shape = repeated_shape HasForm HasDateInterval Date to from same forth back raw_repeated
