-- Ranges of days, from a first day up to an end that isn't in the range.
use Rattle.std.specs.Prelude.{ℕ, ◌-◌, ◌<◌, ◌≤◌, min, max}

-- The days from `start` on, before `end`.
pub record Range : Type 0 where
  pub start : ℕ
  pub end : ℕ

abbrev pub range : ℕ → ℕ → Range
range start end = record { start = start; end = end }

-- Day n is in a range.
abbrev pub IsIn : Range → ℕ → Type 0
IsIn r n = (r.start ≤ n) × (n < r.end)

-- The number of days of a range.
abbrev pub day_count : Range → ℕ
day_count r = r.end - r.start

-- Some day is in both ranges.
pub record HasCommonDay (r s : Range) : Type 0 where
  pub day : ℕ
  pub first : IsIn r day
  pub second : IsIn s day

-- From the later start up to the earlier end.
abbrev pub meet : Range → Range → Range
meet r s = range (max r.start s.start) (min r.end s.end)

-- The number of days that are in both ranges.
abbrev pub common_days : Range → Range → ℕ
common_days r s = day_count (meet r s)
