-- There is one number of a unit from one date or moment to another by the clocks of a zone.
use Rattle.std.proofs.Common.{◌≡◌, ◌∙◌, ℤ, pos, ap, subst, sym}
use Rattle.cal_datetime.specs.OffsetDateTime.{LocalAndOffset, instant}
use Rattle.cal_schedule.specs.Workdays.{WorkWeek}
use Rattle.cal_text.specs.declared.any.DateOrMoment.{DateOrMoment}
use Rattle.cal_text.specs.declared.any.DateOrMoment.TheVariants.{Date, Moment}
use Rattle.cal_zone.specs.Timeline.{Timeline}
use Rattle.cal_zoned.specs.Zoned.{InZone}
use Rattle.cal_zoned.proofs.OneResult.{seen-is}
use Rattle.caldate_answers.specs.ClockCounts.{IsClockCount, IsCountOn, IsReading, goes_by_clock}
use Rattle.caldate_answers.specs.Counts.{IsCount}
use Rattle.caldate_answers.specs.Found.{moment_of}
use Rattle.caldate_answers.specs.declared.request.TimeUnit.{TimeUnit}
use Rattle.caldate_answers.proofs.ClockMoves.{match_one}
use Rattle.caldate_answers.proofs.OneCount.{one_count}

pub one_reading : (zone : Timeline) (found : DateOrMoment) (a b : LocalAndOffset) → IsReading zone found a → IsReading zone found b → a ≡ b
one_reading zone (Date form n) a b h k = h ∙ sym k
one_reading zone (Moment form from) a b h k =
    let there = (seen-is zone (instant from) h.0 h.1).1 ∙ sym (seen-is zone (instant from) k.0 k.1).1 in
    h.2 ∙ ap (λ (x : InZone). record { local = x.moment.local; offset = pos 0 }) there ∙ sym k.2

clock_count-one : (zone : Timeline) (workdays : WorkWeek) (unit : TimeUnit) (from to : DateOrMoment) (y z : ℤ)
    → IsClockCount zone workdays unit from to y → IsClockCount zone workdays unit from to z → y ≡ z
clock_count-one zone workdays unit from to y z h k =
    let start = one_reading zone from h.start k.start h.from k.from in
    let end = one_reading zone to h.end k.end h.to k.to in
    one_count workdays unit k.start k.end y z
    (subst (λ e. IsCount workdays unit k.start e y) end (subst (λ s. IsCount workdays unit s h.end y) start h.count)) k.count

pub one_count_on : (zone : Timeline) (workdays : WorkWeek) (unit : TimeUnit) (from to : DateOrMoment) (y z : ℤ)
    → IsCountOn zone workdays unit from to y → IsCountOn zone workdays unit from to z → y ≡ z
one_count_on zone workdays unit from to y z h k =
    match_one (goes_by_clock unit) (IsClockCount zone workdays unit from to) (IsCount workdays unit (moment_of from) (moment_of to)) y z
    (clock_count-one zone workdays unit from to) (one_count workdays unit (moment_of from) (moment_of to)) h k
