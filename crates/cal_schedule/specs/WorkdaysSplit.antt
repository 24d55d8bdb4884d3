-- Holidays in order, by the number of them before a day, and days by their ranks.
use Rattle.std.specs.Prelude.{◌≡◌, ◌⊎◌, ℕ, ◌+◌, ◌<◌, ◌≤◌, Bool, List, length, slice_index, take, true, Option, MatchOption, ℤ, pos, ◌+ℤ◌, ◌<ℤ◌, ◌≤ℤ◌}
use Rattle.std.specs.List.{count_by}
use Rattle.cal_time.specs.Date.{last_day, IsDate}
use Rattle.cal_time.specs.IsoWeekDate.{count_before}
use Rattle.cal_schedule.specs.Workdays.{WorkWeek, is_marked, is_workday}

-- The first i holidays come before day n, and the others don't.
pub record IsSplit (holidays : List ℕ) (i n : ℕ) : Type 0 where
  pub most : i ≤ length holidays
  pub before : (j : ℕ) → j < i → slice_index holidays j < n
  pub after : (j : ℕ) → i ≤ j → j < length holidays → n ≤ slice_index holidays j

-- The number of holidays with a marked weekday among the first i.
abbrev pub marked_count : WorkWeek → ℕ → ℕ
marked_count w i = count_by (is_marked w.marks) (take i w.holidays)

-- The first i holidays are those with at most this rank, the number of working days before a day.
pub record HavePassed (w : WorkWeek) (rank : ℤ) (i : ℕ) : Type 0 where
  pub most : i ≤ length w.holidays
  pub before : (j : ℕ) → j < i → pos (count_before (is_workday w) (slice_index w.holidays j)) ≤ℤ rank
  pub after : (j : ℕ) → i ≤ j → j < length w.holidays → rank <ℤ pos (count_before (is_workday w) (slice_index w.holidays j))

-- There are n marked days before the working day with this rank: its rank, and the marked holidays
-- that have passed.
abbrev pub IsMarkedBefore : WorkWeek → ℤ → ℤ → Type 0
IsMarkedBefore w rank n = (i : ℕ) × HavePassed w rank i × (n ≡ rank +ℤ pos (marked_count w i))

-- Day x is the day of the range that passes a test and has this rank, the number of such days before
-- it.
pub record IsDayOfRank (test : ℕ → Bool) (rank : ℤ) (x : ℕ) : Type 0 where
  pub date : IsDate x
  pub passes : test x ≡ true
  pub has_rank : pos (count_before test x) ≡ rank

-- The result is the day of the range with this rank, or `None` if the range has none.
abbrev pub IsRanked : (ℕ → Bool) → ℤ → Option ℕ → Type 0
IsRanked test rank r =
    MatchOption r ((rank <ℤ pos 0) ⊎ (pos (count_before test (last_day + 1)) ≤ℤ rank)) (IsDayOfRank test rank)
