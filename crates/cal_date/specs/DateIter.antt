-- Walks: the values of iterators over days.
use Rattle.std.specs.Prelude.{◌≡◌, ℕ, ◌+◌, ◌-◌, ◌≤◌, Bool, ◌&&◌, ◌==◌, List, [], length, reverse, slice_get, nat_lt, nat_le, Option, Some, None, IfSome, option_map, if◌then◌else◌}
use Rattle.std.specs.Option.{option_eq}
use Rattle.cal_date.specs.Date.{year_at, IsDate}
use Rattle.cal_date.specs.Occurrences.{days_from}

-- A walk: a front day, and a back day or none. Its days are the days from the front day to the back
-- day, both included. Without a back day it is empty.
pub record Walk : Type 0 where
  pub front : ℕ
  pub back : Option ℕ

-- The walk with this front day, and this back day or none.
abbrev pub walk : ℕ → Option ℕ → Walk
walk front back = record { front = front; back = back }

-- The back day, if there is one, is a day of the range and not before the front day.
abbrev pub IsWalk : Walk → Type 0
IsWalk w = IfSome w.back (λ back. (w.front ≤ back) × IsDate back)

-- The walk from `start` to `end`, both included. It has no back day if `start` is after `end`.
abbrev pub walk_between : ℕ → ℕ → Walk
walk_between start end = walk start (if nat_le start end then Some end else None)

-- The days from a front day to a back day, if there is one.
abbrev pub days_between : ℕ → Option ℕ → List ℕ
days_between front None = []
days_between front (Some back) = days_from front (back + 1 - front)

-- The days of a walk in order.
abbrev pub days_of : Walk → List ℕ
days_of w = days_between w.front w.back

-- The walk without its first k days: the front day moves past them. If no day is left, the front
-- day stays, without a back day.
abbrev pub without_first : ℕ → Walk → Walk
without_first k w = if nat_lt k (length (days_of w)) then walk (w.front + k) w.back else walk w.front None

-- The walk without its last k days: the back day moves before them. If no day is left, the front
-- day stays, without a back day.
abbrev pub without_last : ℕ → Walk → Walk
without_last k w =
    if nat_lt k (length (days_of w)) then walk w.front (option_map (λ back. back - k) w.back) else walk w.front None

-- The call removes and returns the first day, if there is one.
pub record TakesFirst (old : Walk) (day : Option ℕ) (new : Walk) : Type 0 where
  pub item : day ≡ slice_get (days_of old) 0
  pub left : new ≡ without_first 1 old

-- The call removes and returns the last day, if there is one.
pub record TakesLast (old : Walk) (day : Option ℕ) (new : Walk) : Type 0 where
  pub item : day ≡ slice_get (reverse (days_of old)) 0
  pub left : new ≡ without_last 1 old

-- Two walks are equal if their front days are equal and their back days are equal.
abbrev pub walk_eq : Walk → Walk → Bool
walk_eq v w = (v.front == w.front) && option_eq ◌==◌ v.back w.back

-- `back` is the back day, and it is in the same year as the front day.
pub record IsInOneYear (w : Walk) (back : ℕ) : Type 0 where
  pub back_is : w.back ≡ Some back
  pub year_is : year_at w.front ≡ year_at back
