-- The date or moment that is nearest to a day, counted in days from its local day.
use Rattle.std.specs.Prelude.{◌≡◌, ℕ, ◌+◌, ◌-◌, ◌<◌, ◌≤◌, Option, Some, None, nat_lt, if◌then◌else◌}
use Rattle.cal_text.specs.declared.any.DateOrMoment.{DateOrMoment}
use Rattle.caldate_answers.specs.Found.{day_of}

-- The days between two days, of which either may be the later one.
abbrev pub days_apart : ℕ → ℕ → ℕ
days_apart m n = (m - n) + (n - m)

-- It has the property, none that has it is nearer to the day, and none that is as near is earlier.
pub record IsNearestTo (day : ℕ) (Has : DateOrMoment → Type 0) (found : DateOrMoment) : Type 0 where
  pub has : Has found
  pub nearest : (other : DateOrMoment) → Has other → days_apart day (day_of found) ≤ days_apart day (day_of other)
  pub earlier : (other : DateOrMoment) → Has other → days_apart day (day_of other) ≡ days_apart day (day_of found) → day_of found ≤ day_of other

-- It is the last one with the property on or before the day, and the only one of its day.
pub record IsLastUntil (day : ℕ) (Has : DateOrMoment → Type 0) (found : DateOrMoment) : Type 0 where
  pub has : Has found
  pub until : day_of found ≤ day
  pub last : (other : DateOrMoment) → Has other → day_of other ≤ day → day_of other ≤ day_of found
  pub only : (other : DateOrMoment) → Has other → day_of other ≡ day_of found → other ≡ found

-- It is the first one with the property after the day, and the only one of its day.
pub record IsFirstAfter (day : ℕ) (Has : DateOrMoment → Type 0) (found : DateOrMoment) : Type 0 where
  pub has : Has found
  pub after : day < day_of found
  pub first : (other : DateOrMoment) → Has other → day < day_of other → day_of found ≤ day_of other
  pub only : (other : DateOrMoment) → Has other → day_of other ≡ day_of found → other ≡ found

-- The one that is nearer to the day, or the earlier one if they are as near.
abbrev pub nearer_to : ℕ → Option DateOrMoment → Option DateOrMoment → Option DateOrMoment
nearer_to day (Some last) (Some first) =
    if nat_lt (days_apart day (day_of first)) (days_apart day (day_of last)) then Some first else Some last
nearer_to day (Some last) None = Some last
nearer_to day None first = first
