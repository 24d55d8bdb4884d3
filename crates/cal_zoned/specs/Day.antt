-- Days in a zone.
use Rattle.std.specs.Prelude.{ℤ, ℕ, ◌+◌, ◌-ℤ◌, ◌≡◌, ◌≤ℤ◌, ◌<ℤ◌, Option, Some, SomeIff}
use Rattle.cal_time.specs.Date.{IsDate}
use Rattle.cal_datetime.specs.DateTime.{IsDateTime, date_time}
use Rattle.cal_zone.specs.Timeline.{Timeline}
use Rattle.cal_zoned.specs.Zoned.{InZone, at_instant, reading_at}

-- z is the first instant at which the clocks have reached a reading: they show it or a later one,
-- and at no earlier instant did they.
pub record IsFirstFrom (zone : Timeline) (reading z : ℤ) : Type 0 where
  pub reached : reading ≤ℤ reading_at zone z
  pub first : (y : ℤ) → y <ℤ z → reading_at zone y <ℤ reading

-- The result is the date-time at this instant, or `None` if its reading is out of range.
pub record IsStart (zone : Timeline) (reading : ℤ) (r : Option InZone) : Type 0 where
  pub instant : ℤ
  pub first : IsFirstFrom zone reading instant
  pub value : SomeIff r (IsDateTime (reading_at zone instant)) (at_instant zone instant)

-- d is the length of day n: from the first instant at which the clocks have reached it to the first
-- one at which they have reached the next day.
pub record IsDayLength (zone : Timeline) (n : ℕ) (d : ℤ) : Type 0 where
  pub start : ℤ
  pub end : ℤ
  pub from : IsFirstFrom zone (date_time n 0) start
  pub to : IsFirstFrom zone (date_time (n + 1) 0) end
  pub length : d ≡ end -ℤ start

-- Day n has a length: the next day is in the range, and so is what the clocks show at both starts.
pub record HasDayLength (zone : Timeline) (n : ℕ) : Type 0 where
  pub next : IsDate (n + 1)
  pub start : InZone
  pub end : InZone
  pub from : IsStart zone (date_time n 0) (Some start)
  pub to : IsStart zone (date_time (n + 1) 0) (Some end)
