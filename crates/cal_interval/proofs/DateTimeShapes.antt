-- The shape of an interval of local date-times.
use Rattle.std.proofs.Common.{◌≡◌, ℕ, List, inl, inr, refl}
use Rattle.cal_text.specs.Shape.{Plain, End}
use Rattle.cal_text.specs.PlainForm.{HasPlainForm}
use Rattle.cal_text.specs.declared.plain.numbers.PlainNumbers.{PlainNumbers}
use Rattle.cal_text.proofs.PlainShapes.{plain_form}
use Rattle.cal_text.proofs.DigitForms.{run}
use Rattle.cal_text.proofs.Forms.{led, both, either, nothing, whole}
use Rattle.cal_text.proofs.TimeShapes.{nanosecond-below}
use Rattle.cal_text.proofs.Positions.{IsShapeOf, AreShapesOf}
use Rattle.cal_duration.proofs.Levels.{number_value, some, step}
use Rattle.cal_duration.proofs.Shapes.{days_level, seconds_level}
use Rattle.cal_interval.specs.declared.plain.numbers.DateTimeIntervalNumbers.{DateTimeIntervalNumbers}
use Rattle.cal_interval.specs.declared.plain.numbers.DateTimeIntervalNumbers.TheVariants.{StartAndEnd, StartAndPeriod, PeriodAndEnd}
use Rattle.cal_interval.specs.Form.{PlainFits, PlainNumbersFit, HasDateTimeInterval, HasRepeated}
use Rattle.cal_interval.specs.IntervalShape.{Interval, Repeated}
use Rattle.cal_interval.proofs.Shapes.{Ends, HasEnds, IsRaw, IsRawRepeated, interval_shape, repeated_shape}

raw_interval : (more : ℕ) → IsShapeOf (IsRaw HasPlainForm more) (Interval Plain more End)
raw_interval more =
    let clock = some (step 72 (step 77 (seconds_level more))) in
    let date = some (step 89 (step 77 (step 87 (days_level more)))) in
    let body = either 84 0 (led 84 clock) (both date (either 84 0 (led 84 clock) nothing)) in
    whole (either 80 0 (led 80 (both body (led 47 plain_form))) (both plain_form (led 47 (either 80 0 (led 80 body) plain_form)))) refl

to : Ends PlainNumbers → DateTimeIntervalNumbers
to (inl v) = PeriodAndEnd v.0 v.1
to (inr (inl v)) = StartAndPeriod v.0 v.1
to (inr (inr v)) = StartAndEnd v.0 v.1

from : DateTimeIntervalNumbers → Ends PlainNumbers
from (StartAndEnd a b) = inr (inr (a, b))
from (StartAndPeriod a p) = inr (inl (a, p))
from (PeriodAndEnd p b) = inl (p, b)

same : (m : DateTimeIntervalNumbers) → to (from m) ≡ m
unfolding to from
same (StartAndEnd a b) = refl
same (StartAndPeriod a p) = refl
same (PeriodAndEnd p b) = refl

forth : (bytes : List ℕ) (e : Ends PlainNumbers) → HasEnds HasPlainForm bytes e → HasDateTimeInterval bytes (to e)
unfolding to
forth bytes (inl v) h = h
forth bytes (inr (inl v)) h = h
forth bytes (inr (inr v)) h = h

back : (bytes : List ℕ) (m : DateTimeIntervalNumbers) → HasDateTimeInterval bytes m → HasEnds HasPlainForm bytes (from m)
unfolding from
back bytes (StartAndEnd a b) h = h
back bytes (StartAndPeriod a p) h = h
back bytes (PeriodAndEnd p b) h = h

pub date_time_interval_shape : AreShapesOf HasDateTimeInterval (λ more. Interval Plain more End)
date_time_interval_shape = interval_shape HasPlainForm HasDateTimeInterval Plain to from same forth back raw_interval

-- The numbers of a text fit.
numbers_fit : (bytes : List ℕ) (p : PlainNumbers) → HasPlainForm bytes p → PlainFits p
numbers_fit bytes p h = (h.has_date.form, nanosecond-below h.time p.time h.has_time)

pub fits : (bytes : List ℕ) (m : DateTimeIntervalNumbers) → HasDateTimeInterval bytes m → PlainNumbersFit m
fits bytes (StartAndEnd a b) h = (numbers_fit h.front a h.first, numbers_fit h.back b h.second)
fits bytes (StartAndPeriod a p) h = numbers_fit h.front a h.first
fits bytes (PeriodAndEnd p b) h = numbers_fit h.back b h.second

-- ---- a repeated interval
raw_repeated : (more : ℕ) → IsShapeOf (IsRawRepeated HasPlainForm more) (Repeated Plain more End)
raw_repeated more =
    let clock = some (step 72 (step 77 (seconds_level more))) in
    let date = some (step 89 (step 77 (step 87 (days_level more)))) in
    let body = either 84 0 (led 84 clock) (both date (either 84 0 (led 84 clock) nothing)) in
    let interval = led 47 (either 80 0 (led 80 (both body (led 47 plain_form))) (both plain_form (led 47 (either 80 0 (led 80 body) plain_form)))) in
    whole (led 82 (either 48 9 (both (run 1 more number_value) interval) interval)) refl

pub repeated_date_times_shape : AreShapesOf (HasRepeated HasDateTimeInterval) (λ more. Repeated Plain more End)
repeated_date_times_shape = repeated_shape HasPlainForm HasDateTimeInterval Plain to from same forth back raw_repeated
