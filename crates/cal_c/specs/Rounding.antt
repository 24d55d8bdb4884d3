-- Rounding for C: units, the numbers of modes, and results.
use Rattle.std.specs.Prelude.{◌≡◌, ◌≢◌, ℕ, ◌≤◌, ℤ, pos, ◌<ℤ◌, Option, Some, None, Result, unsigned_abs}
use Rattle.cal_time.specs.SignedDuration.{day, IsDuration}
use Rattle.cal_time.specs.Time.{IsTime}
use Rattle.cal_datetime.specs.DateTime.{date_time}
use Rattle.cal_datetime.specs.OffsetDateTime.{LocalAndOffset}
use Rattle.cal_zone.specs.Timeline.{Timeline}
use Rattle.cal_zone.specs.declared.local_time_error.LocalTimeError.{LocalTimeError}
use Rattle.cal_zoned.specs.Zoned.{InZone}
use Rattle.cal_rounding.specs.InZone.{IsRoundedByClock, IsRoundedToDay}
use Rattle.cal_rounding.specs.Rounding.{IsRoundedTime, IsRoundingUnit, RoundsTimeOf, RoundsWithin}
use Rattle.cal_rounding.specs.declared.rounding_mode.RoundingMode.{RoundingMode}
use Rattle.cal_rounding.specs.declared.rounding_mode.RoundingMode.TheVariants.{Floor, Ceil, Trunc, HalfCeil, HalfEven}
use Rattle.cal_c.specs.Moments.{local_and_offset_in, moment_error, moment_ok, IsMoment}
use Rattle.cal_c.specs.Results.{duration_error, duration_or_out_of_range, pair_at_local, pair_error, time_error, time_ok}
use Rattle.cal_c.specs.Values.{need◌else◌then◌, day_of, nanoseconds_in, IsDurationPair, IsJulianDay}
use Rattle.cal_c.specs.Zoned.{zoned_in, IsInZone, IsZonedWith}
use Rattle.cal_c.specs.declared.results.Duration.{Duration}
use Rattle.cal_c.specs.declared.results.DurationResult.{DurationResult}
use Rattle.cal_c.specs.declared.results.Moment.{Moment}
use Rattle.cal_c.specs.declared.results.MomentResult.{MomentResult}
use Rattle.cal_c.specs.declared.results.PairResult.{PairResult}
use Rattle.cal_c.specs.declared.results.TimeResult.{TimeResult}
use Rattle.cal_c.specs.declared.status.TheConstants.{INVALID_DATE, INVALID_DURATION, INVALID_MOMENT, INVALID_ROUNDING_MODE, INVALID_ROUNDING_UNIT, INVALID_TIME, RESULT_OUT_OF_RANGE, WRONG_OFFSET}

-- A duration above 0, and one that also divides a day.
pub record IsPositiveDuration (d : Duration) : Type 0 where
  pub pair : IsDurationPair d
  pub positive : pos 0 <ℤ nanoseconds_in d

pub record IsUnitOfDay (d : Duration) : Type 0 where
  pub pair : IsDurationPair d
  pub positive : pos 0 <ℤ nanoseconds_in d
  pub unit : IsRoundingUnit (unsigned_abs (nanoseconds_in d))

-- Modes are numbered from 0, `Floor`, to 4, `HalfEven`.
abbrev pub mode_number : RoundingMode → ℕ
mode_number Floor = 0
mode_number Ceil = 1
mode_number Trunc = 2
mode_number HalfCeil = 3
mode_number HalfEven = 4

abbrev pub IsMode : ℕ → Type 0
IsMode k = k ≤ 4

-- ---- results
-- The result with a rounded time of day.
abbrev pub IsRoundedTimeResult : RoundingMode → ℕ → ℕ → TimeResult → Type 0
IsRoundedTimeResult mode unit t r = (its : ℕ) × IsRoundedTime mode unit t its × (r ≡ time_ok its)

-- The result with a rounded local date-time or moment, or out of range for `None`.
abbrev pub local_or_out_of_range : Option ℤ → PairResult
local_or_out_of_range (Some z) = pair_at_local z
local_or_out_of_range None = pair_error RESULT_OUT_OF_RANGE

abbrev pub IsRoundedPair : RoundingMode → ℕ → ℤ → PairResult → Type 0
IsRoundedPair mode unit z r = (its : Option ℤ) × RoundsTimeOf mode unit z (λ (y : ℤ). y) its × (r ≡ local_or_out_of_range its)

abbrev pub moment_or_out_of_range : Option LocalAndOffset → MomentResult
moment_or_out_of_range (Some m) = moment_ok m
moment_or_out_of_range None = moment_error RESULT_OUT_OF_RANGE

abbrev pub IsRoundedMoment : RoundingMode → ℕ → LocalAndOffset → MomentResult → Type 0
IsRoundedMoment mode unit m r =
    (its : Option LocalAndOffset) × RoundsTimeOf mode unit m.local (λ (y : ℤ). record { local = y; offset = m.offset }) its × (r ≡ moment_or_out_of_range its)

-- The result with a rounded duration.
abbrev pub IsRoundedDuration : RoundingMode → ℕ → ℤ → DurationResult → Type 0
IsRoundedDuration mode unit v r = (its : Option ℤ) × RoundsWithin IsDuration mode unit v its × (r ≡ duration_or_out_of_range its)

-- ---- calls, whose result is that of the first condition that fails, or else the last
-- A time of day to a multiple of a unit.
abbrev pub IsTimeRoundedTo : ℕ → Duration → ℕ → TimeResult → Type 0
IsTimeRoundedTo time unit mode r =
    need IsTime time else r ≡ time_error INVALID_TIME then
    need IsUnitOfDay unit else r ≡ time_error INVALID_ROUNDING_UNIT then
    need IsMode mode else r ≡ time_error INVALID_ROUNDING_MODE then
    (its : RoundingMode) × (mode_number its ≡ mode) × IsRoundedTimeResult its (unsigned_abs (nanoseconds_in unit)) time r

-- A date and a time of day.
abbrev pub IsPairRoundedTo : ℤ → ℕ → Duration → ℕ → PairResult → Type 0
IsPairRoundedTo date time unit mode r =
    need IsJulianDay date else r ≡ pair_error INVALID_DATE then
    need IsTime time else r ≡ pair_error INVALID_TIME then
    need IsUnitOfDay unit else r ≡ pair_error INVALID_ROUNDING_UNIT then
    need IsMode mode else r ≡ pair_error INVALID_ROUNDING_MODE then
    (its : RoundingMode) × (mode_number its ≡ mode)
    × IsRoundedPair its (unsigned_abs (nanoseconds_in unit)) (date_time (day_of date) time) r

-- A moment.
abbrev pub IsMomentRoundedTo : Moment → Duration → ℕ → MomentResult → Type 0
IsMomentRoundedTo moment unit mode r =
    need IsMoment moment else r ≡ moment_error INVALID_MOMENT then
    need IsUnitOfDay unit else r ≡ moment_error INVALID_ROUNDING_UNIT then
    need IsMode mode else r ≡ moment_error INVALID_ROUNDING_MODE then
    (its : RoundingMode) × (mode_number its ≡ mode) × IsRoundedMoment its (unsigned_abs (nanoseconds_in unit)) (local_and_offset_in moment) r

-- A duration to a multiple of a positive one.
abbrev pub IsDurationRoundedTo : Duration → Duration → ℕ → DurationResult → Type 0
IsDurationRoundedTo duration unit mode r =
    need IsDurationPair duration else r ≡ duration_error INVALID_DURATION then
    need IsPositiveDuration unit else r ≡ duration_error INVALID_ROUNDING_UNIT then
    need IsMode mode else r ≡ duration_error INVALID_ROUNDING_MODE then
    (its : RoundingMode) × (mode_number its ≡ mode) × IsRoundedDuration its (unsigned_abs (nanoseconds_in unit)) (nanoseconds_in duration) r

-- A date-time in a zone, to a start of a day or by what the clocks show.
pub record RoundsInZone (mode : RoundingMode) (unit : ℕ) (m : InZone) (r : Result InZone LocalTimeError) : Type 0 where
  pub whole_day : unit ≡ day → IsRoundedToDay mode m r
  pub clock : unit ≢ day → IsRoundedByClock mode unit m r

abbrev pub IsZonedRoundedTo : Timeline → Moment → Duration → ℕ → MomentResult → Type 0
IsZonedRoundedTo z moment unit mode r =
    need IsMoment moment else r ≡ moment_error INVALID_MOMENT then
    need IsInZone z moment else r ≡ moment_error WRONG_OFFSET then
    need IsUnitOfDay unit else r ≡ moment_error INVALID_ROUNDING_UNIT then
    need IsMode mode else r ≡ moment_error INVALID_ROUNDING_MODE then
    (its : RoundingMode) × (mode_number its ≡ mode)
    × IsZonedWith (RoundsInZone its (unsigned_abs (nanoseconds_in unit)) (zoned_in z moment)) r
