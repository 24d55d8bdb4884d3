-- Moments moved by the clocks of a zone.
use Rattle.std.specs.Prelude.{◌≡◌, ◌==◌, ℕ, ℤ, pos, ◌+ℤ◌, Option, Some, None, Result, Ok, Err, ok_or, MatchBool, MatchOption}
use Rattle.cal_time.specs.Date.{IsDate}
use Rattle.cal_time.specs.SignedDuration.{whole_days}
use Rattle.cal_time.specs.SignedDuration as duration
use Rattle.cal_datetime.specs.DateTime.{date_at, date_time}
use Rattle.cal_datetime.specs.OffsetDateTime.{LocalAndOffset, instant}
use Rattle.cal_rounding.specs.InZone.{IsRoundedToDay}
use Rattle.cal_rounding.specs.Rounding.{RoundsTimeOf}
use Rattle.cal_rounding.specs.declared.rounding_mode.RoundingMode.TheVariants.{HalfCeil}
use Rattle.cal_schedule.specs.Period.{IsDaysLater, Parts, days_of, months_of}
use Rattle.cal_schedule.specs.Workdays.{WorkWeek}
use Rattle.cal_zone.specs.declared.local_time_error.LocalTimeError.{LocalTimeError}
use Rattle.cal_zone.specs.declared.local_time_error.LocalTimeError.TheVariants.{OutOfRange}
use Rattle.cal_zone.specs.declared.policy.Policy.{Policy}
use Rattle.cal_zoned.specs.Day.{IsStart}
use Rattle.cal_zoned.specs.Moves.{IsMovedTo}
use Rattle.cal_zoned.specs.Period.{IsPeriodLater}
use Rattle.cal_zoned.specs.Resolved.{IsKept}
use Rattle.cal_zoned.specs.Zoned.{InZone, IsSeen, instant_in}
use Rattle.caldate_answers.specs.Moves.{MovesTo, floored}
use Rattle.caldate_answers.specs.declared.request.Clock.{Clock}
use Rattle.caldate_answers.specs.declared.request.Move.{Move}
use Rattle.caldate_answers.specs.declared.request.Move.TheVariants.{Day, Days, Add, Floor, Period, Round}

-- The day that has a property, or `None` if no day has it.
abbrev pub IsDayWith : (ℕ → Type 0) → Option ℕ → Type 0
IsDayWith Has day = MatchOption day ((n : ℕ) → ¬ Has n) Has

-- The clocks show the same time of day on another day, if there is one. The policy says which
-- date-time this means.
abbrev pub IsOnDay : Policy → InZone → Option ℕ → Result InZone LocalTimeError → Type 0
IsOnDay policy from None r = r ≡ Err OutOfRange
IsOnDay policy from (Some n) r = IsMovedTo policy from n r

-- The start of the day, for 1440 minutes, or the time of day rounded down.
abbrev pub IsRounded : Policy → ℕ → InZone → Result InZone LocalTimeError → Type 0
IsRounded policy n from r =
    MatchBool (n == 1440) ((start : Option InZone) × IsStart from.zone (date_time (date_at from.moment.local) 0) start × (r ≡ ok_or start OutOfRange))
    (IsKept policy from (floored n from.moment).local r)

-- The time of day that the clocks show, rounded to the nearest multiple of n nanoseconds, if it is in
-- the range. The policy says what this means.
abbrev pub IsKeptAt : Policy → InZone → Option ℤ → Result InZone LocalTimeError → Type 0
IsKeptAt policy from None r = r ≡ Err OutOfRange
IsKeptAt policy from (Some z) r = IsKept policy from z r

abbrev pub IsNearestOn : Policy → ℕ → InZone → Result InZone LocalTimeError → Type 0
IsNearestOn policy n from r =
    MatchBool (n == duration.day) (IsRoundedToDay HalfCeil from r)
    ((local : Option ℤ) × RoundsTimeOf HalfCeil n from.moment.local (λ (z : ℤ). z) local × IsKeptAt policy from local r)

-- The day some months and days after the date that the clocks show, if there is one. A period goes
-- to it, and its exact part then moves the instant.
abbrev pub IsPeriodOnDay : Policy → Parts → InZone → Result InZone LocalTimeError → Type 0
IsPeriodOnDay policy p from r =
    (day : Option ℕ) × IsDayWith (λ n. IsDate n × IsDaysLater (date_at from.moment.local) (months_of p) (days_of p) n) day × IsPeriodLater policy from p r

-- A move of days goes by the date and the time of day that the clocks show, and one by a duration by
-- the instant.
abbrev pub IsMovedIn : Policy → WorkWeek → Move → InZone → Result InZone LocalTimeError → Type 0
IsMovedIn policy workdays (Day by) from r = (day : Option ℕ) × IsDayWith (MovesTo workdays by (date_at from.moment.local)) day × IsOnDay policy from day r
IsMovedIn policy workdays (Days d) from r =
    (day : Option ℕ) × IsDayWith (λ n. IsDate n × (pos n ≡ pos (date_at from.moment.local) +ℤ whole_days d)) day × IsOnDay policy from day r
IsMovedIn policy workdays (Add d) from r = IsSeen from.zone (instant_in from +ℤ d) r
IsMovedIn policy workdays (Floor n) from r = IsRounded policy n from r
IsMovedIn policy workdays (Period p) from r = IsPeriodOnDay policy p from r
IsMovedIn policy workdays (Round n) from r = IsNearestOn policy n from r

abbrev pub IsMovedFrom : Policy → WorkWeek → Move → Result InZone LocalTimeError → Result InZone LocalTimeError → Type 0
IsMovedFrom policy workdays by (Ok here) r = IsMovedIn policy workdays by here r
IsMovedFrom policy workdays by (Err e) r = r ≡ Err e

-- What the clocks of a zone show.
abbrev pub moment_in : Result InZone LocalTimeError → Result LocalAndOffset LocalTimeError
moment_in (Ok m) = Ok m.moment
moment_in (Err e) = Err e

-- The result is the moment `from`, moved by the clocks of a zone, or why it can't be.
pub record IsMovedOn (clock : Clock) (workdays : WorkWeek) (by : Move) (from : LocalAndOffset) (r : Result LocalAndOffset LocalTimeError) : Type 0 where
  pub here : Result InZone LocalTimeError
  pub there : Result InZone LocalTimeError
  pub seen : IsSeen clock.zone (instant from) here
  pub moved : IsMovedFrom clock.policy workdays by here there
  pub value : r ≡ moment_in there
