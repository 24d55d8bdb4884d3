-- Rounding of date-times in a zone: by what the clocks show, or to the start of a day.
use Rattle.std.specs.Prelude.{◌≡◌, ◌⊎◌, ℕ, ◌+◌, ℤ, pos, ◌-ℤ◌, ◌≤ℤ◌, ◌<ℤ◌, unsigned_abs, Some, Result, Err, IfOk, IfErr}
use Rattle.cal_time.specs.Date.{IsDate}
use Rattle.cal_datetime.specs.DateTime.{IsDateTime, date_at, date_time, time_at}
use Rattle.cal_zone.specs.declared.local_time_error.LocalTimeError.{LocalTimeError}
use Rattle.cal_zone.specs.declared.local_time_error.LocalTimeError.TheVariants.{OutOfRange}
use Rattle.cal_zone.specs.declared.policy.Policy.TheVariants.{Compatible}
use Rattle.cal_zoned.specs.Day.{IsStart}
use Rattle.cal_zoned.specs.Resolved.{IsKept}
use Rattle.cal_zoned.specs.Zoned.{InZone, instant_in}
use Rattle.cal_rounding.specs.Rounding.{IsRounded, since_midnight}
use Rattle.cal_rounding.specs.declared.rounding_mode.RoundingMode.{RoundingMode}

-- The result is a date-time in a zone whose clock is rounded. It keeps the offset if the clocks show
-- the rounded time at this offset, and otherwise the policy `Compatible` decides.
pub record IsRoundedByClock (mode : RoundingMode) (unit : ℕ) (m : InZone) (r : Result InZone LocalTimeError) : Type 0 where
  pub to : ℤ
  pub rounded : IsRounded mode unit (pos (time_at m.moment.local)) to
  pub kept : IsDateTime (since_midnight m.moment.local to) → IsKept Compatible m (since_midnight m.moment.local to) r
  pub error : ¬ IsDateTime (since_midnight m.moment.local to) → r ≡ Err OutOfRange

-- r is the start of the day of a date-time or of the next day: the time since the first start is
-- rounded to no time or to the length of the day. After the second start, in a fold over midnight,
-- r is that start.
pub record IsNearestStart (mode : RoundingMode) (m start end r : InZone) : Type 0 where
  pub choice : (r ≡ start) ⊎ (r ≡ end)
  pub before_end :
      instant_in m <ℤ instant_in end
      → IsRounded mode (unsigned_abs (instant_in end -ℤ instant_in start)) (instant_in m -ℤ instant_in start) (instant_in r -ℤ instant_in start)
  pub past_end : instant_in end ≤ℤ instant_in m → r ≡ end

-- Both days have a start in the range: the day of a date-time and the next one.
pub record HasStarts (m : InZone) (start end : InZone) : Type 0 where
  pub next : IsDate (date_at m.moment.local + 1)
  pub from : IsStart m.zone (date_time (date_at m.moment.local) 0) (Some start)
  pub to : IsStart m.zone (date_time (date_at m.moment.local + 1) 0) (Some end)

-- The result is the nearest start for a date-time in a zone, or the error `OutOfRange` if one of the
-- two days has no start in the range.
pub record IsRoundedToDay (mode : RoundingMode) (m : InZone) (r : Result InZone LocalTimeError) : Type 0 where
  pub value : IfOk r (λ s. (start : InZone) × (end : InZone) × HasStarts m start end × IsNearestStart mode m start end s)
  pub error : IfErr r (λ e. (e ≡ OutOfRange) × ((start end : InZone) → ¬ HasStarts m start end))
