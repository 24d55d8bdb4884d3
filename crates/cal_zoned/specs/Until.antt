-- The period between two local date-times, and between two date-times in a zone.
use Rattle.std.specs.Prelude.{◌≡◌, ◌⊎◌, ℕ, ◌≤◌, ◌<◌, ℤ, pos, ◌+ℤ◌, ◌-ℤ◌, ◌≤ℤ◌, ◌<ℤ◌, Ok}
use Rattle.cal_time.specs.Date.{IsDate}
use Rattle.cal_time.specs.SignedDuration.{day}
use Rattle.cal_datetime.specs.DateTime.{date_at, with_date}
use Rattle.cal_schedule.specs.Period.{parts, IsOneSign, Parts}
use Rattle.cal_schedule.specs.Units.{IsUntilBy}
use Rattle.cal_schedule.specs.declared.unit.CalendarUnit.{CalendarUnit}
use Rattle.cal_zone.specs.declared.policy.Policy.{Policy}
use Rattle.cal_zoned.specs.Moves.{IsMovedTo}
use Rattle.cal_zoned.specs.Zoned.{InZone, instant_in}

-- Day n is the last one on the way from z to t on which z's time of day isn't past t.
pub record IsLastWholeDay (z t : ℤ) (n : ℕ) : Type 0 where
  pub in_range : IsDate n
  pub forward : z ≤ℤ t → (date_at z ≤ n) × (with_date z n ≤ℤ t) × (t <ℤ (with_date z n +ℤ pos day))
  pub backward : t <ℤ z → (n ≤ date_at z) × (t ≤ℤ with_date z n) × ((with_date z n -ℤ pos day) <ℤ t)

-- The period without its exact part.
abbrev pub date_part : Parts → Parts
date_part p = parts p.years p.months p.weeks p.days (pos 0)

-- t is a period after z: the whole units up to a day, and the exact rest.
pub record IsPeriodUntil (unit : CalendarUnit) (z t : ℤ) (p : Parts) : Type 0 where
  pub whole : ℕ
  pub last : IsLastWholeDay z t whole
  pub counted : IsUntilBy unit (date_at z) whole (date_part p)
  pub exact : t ≡ with_date z whole +ℤ p.exact
  pub one_sign : IsOneSign p

-- A date-time in a zone, moved to day n, isn't after t, or isn't before t.
pub record IsUpTo (p : Policy) (m t : InZone) (n : ℕ) : Type 0 where
  pub there : InZone
  pub moved : IsMovedTo p m n (Ok there)
  pub in_time : instant_in there ≤ℤ instant_in t

pub record IsBackTo (p : Policy) (m t : InZone) (n : ℕ) : Type 0 where
  pub there : InZone
  pub moved : IsMovedTo p m n (Ok there)
  pub in_time : instant_in t ≤ℤ instant_in there

-- Moved to day n, which is its own day or on the way to the day of t, a date-time is r and hasn't
-- passed t. On each later day on the way it has.
pub record IsLastUpTo (p : Policy) (m t : InZone) (n : ℕ) (r : InZone) : Type 0 where
  pub moved : IsMovedTo p m n (Ok r)
  pub in_time : instant_in r ≤ℤ instant_in t
  pub from : date_at m.moment.local ≤ n
  pub to : (n ≤ date_at t.moment.local) ⊎ (n ≡ date_at m.moment.local)
  pub last : (k : ℕ) → n < k → k ≤ date_at t.moment.local → ¬ IsUpTo p m t k

pub record IsLastBackTo (p : Policy) (m t : InZone) (n : ℕ) (r : InZone) : Type 0 where
  pub moved : IsMovedTo p m n (Ok r)
  pub in_time : instant_in t ≤ℤ instant_in r
  pub from : n ≤ date_at m.moment.local
  pub to : (date_at t.moment.local ≤ n) ⊎ (n ≡ date_at m.moment.local)
  pub last : (k : ℕ) → k < n → date_at t.moment.local ≤ k → ¬ IsBackTo p m t k

-- t is a period after m in a zone: the whole units up to a day, and the exact rest.
pub record IsUntilInZone (p : Policy) (unit : CalendarUnit) (m t : InZone) (period : Parts) : Type 0 where
  pub whole : ℕ
  pub in_range : IsDate whole
  pub there : InZone
  pub forward : instant_in m ≤ℤ instant_in t → IsLastUpTo p m t whole there
  pub backward : instant_in t <ℤ instant_in m → IsLastBackTo p m t whole there
  pub counted : IsUntilBy unit (date_at m.moment.local) whole (date_part period)
  pub exact : instant_in t ≡ instant_in there +ℤ period.exact
  pub one_sign : IsOneSign period
