-- Date-times in a zone for C: moments with the offset of the zone.
use Rattle.std.specs.Prelude.{◌≡◌, ℕ, ℤ, pos, ◌+ℤ◌, ◌-ℤ◌, ◌*ℤ◌, Option, Some, None, Result, Ok, Err}
use Rattle.cal_time.specs.SignedDuration.{second}
use Rattle.cal_time.specs.Time.{IsTime}
use Rattle.cal_datetime.specs.DateTime.{IsDateTime, date_at, date_time}
use Rattle.cal_datetime.specs.OffsetDateTime.{instant, unix_epoch, unix_seconds}
use Rattle.cal_schedule.specs.Period.{Parts}
use Rattle.cal_schedule.specs.declared.unit.CalendarUnit.{CalendarUnit}
use Rattle.cal_zone.specs.Local.{Shows}
use Rattle.cal_zone.specs.Timeline.{Timeline}
use Rattle.cal_zone.specs.declared.local_time_error.LocalTimeError.{LocalTimeError}
use Rattle.cal_zone.specs.declared.policy.Policy.{Policy}
use Rattle.cal_zoned.specs.Day.{HasDayLength, IsDayLength, IsStart}
use Rattle.cal_zoned.specs.Moves.{end_before, IsMovedTo, IsNextStart, IsStartOf}
use Rattle.cal_zoned.specs.Period.{IsNthPeriodLater, IsPeriodLater}
use Rattle.cal_zoned.specs.Resolved.{IsKept, IsResolved}
use Rattle.cal_zoned.specs.Unchecked.{in_zone}
use Rattle.cal_zoned.specs.Until.{IsUntilInZone}
use Rattle.cal_zoned.specs.Zoned.{InZone, at_instant, instant_in, reading_at, IsSeen}
use Rattle.cal_c.specs.Moments.{local_and_offset_in, local_in, moment_error, moment_ok, IsMoment}
use Rattle.cal_c.specs.Periods.{exact_period_error, parts_in, IsExactPeriodWith, IsPeriod}
use Rattle.cal_c.specs.Results.{duration_error, duration_ok, int64_error, int64_ok}
use Rattle.cal_c.specs.Schedule.{unit_number, IsUnit}
use Rattle.cal_c.specs.Values.{need◌else◌then◌, day_of, nanoseconds_in, IsDurationPair, IsJulianDay}
use Rattle.cal_c.specs.Zones.{local_time_status, policy_number, IsForZone, IsPolicy}
use Rattle.cal_c.specs.declared.results.Duration.{Duration}
use Rattle.cal_c.specs.declared.results.DurationResult.{DurationResult}
use Rattle.cal_c.specs.declared.results.Int64Result.{Int64Result}
use Rattle.cal_c.specs.declared.results.Moment.{Moment}
use Rattle.cal_c.specs.declared.results.MomentResult.{MomentResult}
use Rattle.cal_c.specs.declared.schedule.pair_periods.ExactPeriodResult.{ExactPeriodResult}
use Rattle.cal_c.specs.declared.schedule.periods.PeriodParts.{PeriodParts}
use Rattle.cal_c.specs.declared.status.TheConstants.{INVALID_DATE, INVALID_DURATION, INVALID_MOMENT, INVALID_PERIOD, INVALID_POLICY, INVALID_TIME, INVALID_UNIT, INVALID_ZONE, RESULT_OUT_OF_RANGE, WRONG_OFFSET}
use Rattle.cal_c.specs.declared.zones.checked_zone.CheckedZone.{CheckedZone}

-- The offset of a moment is the offset of the zone at its instant.
abbrev pub IsInZone : Timeline → Moment → Type 0
IsInZone z m = Shows z (local_in m) (local_and_offset_in m)

-- The date-time in the zone.
abbrev pub zoned_in : Timeline → Moment → InZone
zoned_in z m = in_zone z (local_and_offset_in m)

-- The result with a date-time in a zone, or with an error.
abbrev pub zoned_or_error : Result InZone LocalTimeError → MomentResult
zoned_or_error (Ok m) = moment_ok m.moment
zoned_or_error (Err e) = moment_error (local_time_status e)

-- The result is a date-time in a zone, or an error, with a property.
abbrev pub IsZonedWith : (Result InZone LocalTimeError → Type 0) → MomentResult → Type 0
IsZonedWith Is r = (its : Result InZone LocalTimeError) × Is its × (r ≡ zoned_or_error its)

-- The result is the start of a day, or out of range.
abbrev pub start_or_error : Option InZone → MomentResult
start_or_error (Some m) = moment_ok m.moment
start_or_error None = moment_error RESULT_OUT_OF_RANGE

abbrev pub IsStartResult : Timeline → ℤ → MomentResult → Type 0
IsStartResult z reading r = (its : Option InZone) × IsStart z reading its × (r ≡ start_or_error its)

-- The result is the length of day n, or out of range if it has none.
pub record IsDayLengthResult (z : Timeline) (n : ℕ) (r : DurationResult) : Type 0 where
  pub value : HasDayLength z n → (d : ℤ) × IsDayLength z n d × (r ≡ duration_ok d)
  pub none : ¬ (HasDayLength z n) → r ≡ duration_error RESULT_OUT_OF_RANGE

-- ---- calls in a zone, whose result is that of the first condition that fails, or else the last
-- The moment at a Unix time.
abbrev pub IsZonedAt : Timeline → Duration → MomentResult → Type 0
IsZonedAt z unix_time r =
    need IsDurationPair unix_time else r ≡ moment_error INVALID_DURATION then
    IsZonedWith (IsSeen z (unix_epoch +ℤ nanoseconds_in unix_time)) r

-- The moment that a date and a time of day mean by a policy.
abbrev pub IsFromLocal : Timeline → ℤ → ℕ → ℕ → MomentResult → Type 0
IsFromLocal z date time policy r =
    need IsJulianDay date else r ≡ moment_error INVALID_DATE then
    need IsTime time else r ≡ moment_error INVALID_TIME then
    need IsPolicy policy else r ≡ moment_error INVALID_POLICY then
    (p : Policy) × (policy_number p ≡ policy)
    × IsZonedWith (IsResolved p z (date_time (day_of date) time)) r

-- A moment moved to another date and time of day.
abbrev pub IsWithLocal : Timeline → Moment → ℤ → ℕ → ℕ → MomentResult → Type 0
IsWithLocal z moment date time policy r =
    need IsMoment moment else r ≡ moment_error INVALID_MOMENT then
    need IsInZone z moment else r ≡ moment_error WRONG_OFFSET then
    need IsJulianDay date else r ≡ moment_error INVALID_DATE then
    need IsTime time else r ≡ moment_error INVALID_TIME then
    need IsPolicy policy else r ≡ moment_error INVALID_POLICY then
    (p : Policy) × (policy_number p ≡ policy)
    × IsZonedWith (IsKept p (zoned_in z moment) (date_time (day_of date) time)) r

-- A moment a duration later, and a duration earlier.
abbrev pub IsDurationLater : Timeline → Moment → Duration → MomentResult → Type 0
IsDurationLater z moment duration r =
    need IsMoment moment else r ≡ moment_error INVALID_MOMENT then
    need IsInZone z moment else r ≡ moment_error WRONG_OFFSET then
    need IsDurationPair duration else r ≡ moment_error INVALID_DURATION then
    IsZonedWith (IsSeen z (instant (local_and_offset_in moment) +ℤ nanoseconds_in duration)) r

abbrev pub IsDurationEarlier : Timeline → Moment → Duration → MomentResult → Type 0
IsDurationEarlier z moment duration r =
    need IsMoment moment else r ≡ moment_error INVALID_MOMENT then
    need IsInZone z moment else r ≡ moment_error WRONG_OFFSET then
    need IsDurationPair duration else r ≡ moment_error INVALID_DURATION then
    IsZonedWith (IsSeen z (instant (local_and_offset_in moment) -ℤ nanoseconds_in duration)) r

-- A moment a period later.
abbrev pub IsPeriodLaterResult : Timeline → Moment → PeriodParts → ℕ → MomentResult → Type 0
IsPeriodLaterResult z moment period policy r =
    need IsMoment moment else r ≡ moment_error INVALID_MOMENT then
    need IsInZone z moment else r ≡ moment_error WRONG_OFFSET then
    need IsPeriod period else r ≡ moment_error INVALID_PERIOD then
    need IsPolicy policy else r ≡ moment_error INVALID_POLICY then
    (p : Policy) × (policy_number p ≡ policy)
    × IsZonedWith (IsPeriodLater p (zoned_in z moment) (parts_in period)) r

-- A moment a period later, n times at once.
abbrev pub IsNthPeriodResult : Timeline → Moment → PeriodParts → ℤ → ℕ → MomentResult → Type 0
IsNthPeriodResult z moment period n policy r =
    need IsMoment moment else r ≡ moment_error INVALID_MOMENT then
    need IsInZone z moment else r ≡ moment_error WRONG_OFFSET then
    need IsPeriod period else r ≡ moment_error INVALID_PERIOD then
    need IsPolicy policy else r ≡ moment_error INVALID_POLICY then
    (p : Policy) × (policy_number p ≡ policy)
    × IsZonedWith (IsNthPeriodLater p (zoned_in z moment) (parts_in period) n) r

-- The period from a date-time in a zone to a moment, counted by a unit.
abbrev pub IsUntilFrom : Timeline → InZone → Moment → ℕ → ℕ → ExactPeriodResult → Type 0
IsUntilFrom z from other unit policy r =
    need IsMoment other else r ≡ exact_period_error INVALID_MOMENT then
    need IsInZone z other else r ≡ exact_period_error WRONG_OFFSET then
    need IsUnit unit else r ≡ exact_period_error INVALID_UNIT then
    need IsPolicy policy else r ≡ exact_period_error INVALID_POLICY then
    (u : CalendarUnit) × (unit_number u ≡ unit) × ((p : Policy) × (policy_number p ≡ policy) × IsExactPeriodWith (IsUntilInZone p u from (zoned_in z other)) r)

-- The same from a moment.
abbrev pub IsUntilInZoneResult : Timeline → Moment → Moment → ℕ → ℕ → ExactPeriodResult → Type 0
IsUntilInZoneResult z moment other unit policy r =
    need IsMoment moment else r ≡ exact_period_error INVALID_MOMENT then
    need IsInZone z moment else r ≡ exact_period_error WRONG_OFFSET then
    IsUntilFrom z (zoned_in z moment) other unit policy r

-- The start of a date, and the length of its day.
abbrev pub IsStartOfDate : Timeline → ℤ → MomentResult → Type 0
IsStartOfDate z date r =
    need IsJulianDay date else r ≡ moment_error INVALID_DATE then
    IsStartResult z (date_time (day_of date) 0) r

abbrev pub IsLengthOfDate : Timeline → ℤ → DurationResult → Type 0
IsLengthOfDate z date r =
    need IsJulianDay date else r ≡ duration_error INVALID_DATE then
    IsDayLengthResult z (day_of date) r

-- A moment moved to another date by the calendar.
abbrev pub IsMovedToDate : Timeline → Moment → ℤ → ℕ → MomentResult → Type 0
IsMovedToDate z moment date policy r =
    need IsMoment moment else r ≡ moment_error INVALID_MOMENT then
    need IsInZone z moment else r ≡ moment_error WRONG_OFFSET then
    need IsJulianDay date else r ≡ moment_error INVALID_DATE then
    need IsPolicy policy else r ≡ moment_error INVALID_POLICY then
    (p : Policy) × (policy_number p ≡ policy)
    × IsZonedWith (IsMovedTo p (zoned_in z moment) (day_of date)) r

-- The start of the unit that a date-time in a zone is in.
abbrev pub IsStartOfUnitResult : CalendarUnit → InZone → MomentResult → Type 0
IsStartOfUnitResult unit m r = (its : Option InZone) × IsStartOf unit m its × (r ≡ start_or_error its)

-- Its end, or out of range if it has none.
pub data IsEndResult (unit : CalendarUnit) (m : InZone) (r : MomentResult) : Type 0 where
  end : (s : InZone) → IsNextStart unit m s → IsDateTime (reading_at s.zone (instant_in s -ℤ pos 1))
      → r ≡ moment_ok (end_before s).moment → IsEndResult unit m r
  none : ((s : InZone) → IsNextStart unit m s → ¬ IsDateTime (reading_at s.zone (instant_in s -ℤ pos 1)))
      → r ≡ moment_error RESULT_OUT_OF_RANGE → IsEndResult unit m r

-- The same for a moment and the number of a unit.
abbrev pub IsStartOfUnit : Timeline → Moment → ℕ → MomentResult → Type 0
IsStartOfUnit z moment unit r =
    need IsMoment moment else r ≡ moment_error INVALID_MOMENT then
    need IsInZone z moment else r ≡ moment_error WRONG_OFFSET then
    need IsUnit unit else r ≡ moment_error INVALID_UNIT then
    (its : CalendarUnit) × (unit_number its ≡ unit) × IsStartOfUnitResult its (zoned_in z moment) r

abbrev pub IsEndOfUnit : Timeline → Moment → ℕ → MomentResult → Type 0
IsEndOfUnit z moment unit r =
    need IsMoment moment else r ≡ moment_error INVALID_MOMENT then
    need IsInZone z moment else r ≡ moment_error WRONG_OFFSET then
    need IsUnit unit else r ≡ moment_error INVALID_UNIT then
    (its : CalendarUnit) × (unit_number its ≡ unit) × IsEndResult its (zoned_in z moment) r

-- ---- columns
-- The instant of a Unix time in seconds.
abbrev pub instant_at : ℤ → ℤ
instant_at seconds = unix_epoch +ℤ seconds *ℤ pos second

-- The result with the Unix time of a date-time in a zone, or with an error.
abbrev pub seconds_or_error : Result InZone LocalTimeError → Int64Result
seconds_or_error (Ok m) = int64_ok (unix_seconds (instant m.moment))
seconds_or_error (Err e) = int64_error (local_time_status e)

abbrev pub start_seconds_or_error : Option InZone → Int64Result
start_seconds_or_error (Some m) = int64_ok (unix_seconds (instant m.moment))
start_seconds_or_error None = int64_error RESULT_OUT_OF_RANGE

-- The result is the Unix time a period after a Unix time in a zone, by a policy.
abbrev pub IsLaterSeconds : Timeline → ℤ → Parts → Policy → Int64Result → Type 0
IsLaterSeconds z seconds period q r =
    need IsDateTime (reading_at z (instant_at seconds)) else r ≡ int64_error RESULT_OUT_OF_RANGE then
    ((its : Result InZone LocalTimeError) × IsPeriodLater q (at_instant z (instant_at seconds)) period its × (r ≡ seconds_or_error its))

-- The same for a struct and for the number of a policy.
pub record IsSecondsAfter (c : CheckedZone) (seconds : ℤ) (period : Parts) (policy : ℕ) (r : Int64Result) : Type 0 where
  pub answer : IsForZone c
      (λ z. need IsPolicy policy else r ≡ int64_error INVALID_POLICY then
      ((q : Policy) × (policy_number q ≡ policy) × IsLaterSeconds z seconds period q r))
      (r ≡ int64_error INVALID_ZONE)

-- The result is the Unix time of the start of the day that the clocks show at a Unix time.
abbrev pub IsStartSeconds : Timeline → ℤ → Int64Result → Type 0
IsStartSeconds z seconds r =
    need IsDateTime (reading_at z (instant_at seconds)) else r ≡ int64_error RESULT_OUT_OF_RANGE then
    ((its : Option InZone) × IsStart z (date_time (date_at (reading_at z (instant_at seconds))) 0) its × (r ≡ start_seconds_or_error its))

pub record IsSecondsOfStart (c : CheckedZone) (seconds : ℤ) (r : Int64Result) : Type 0 where
  pub answer : IsForZone c (λ z. IsStartSeconds z seconds r) (r ≡ int64_error INVALID_ZONE)
