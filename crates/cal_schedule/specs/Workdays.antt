-- Working days are the days with a marked weekday, except the holidays.
use Rattle.std.specs.Prelude.{ℕ, zero, suc, ◌+◌, ◌-◌, ◌==◌, ◌&&◌, Bool, false, not, List, Option, filter, slice_get, ℤ, pos, negsuc, slice_index_or}
use Rattle.std.specs.List.{list_any}
use Rattle.cal_time.specs.Date.{last_day, weekday_at}
use Rattle.cal_time.specs.Occurrences.{days_from, days_back_from}

-- A working week: a mark for each weekday, from Monday to Sunday, and the numbers of the holidays.
pub record WorkWeek : Type 0 where
  pub marks : List Bool
  pub holidays : List ℕ

-- Day n has a marked weekday.
unfoldable pub is_marked : List Bool → ℕ → Bool
is_marked marks n = slice_index_or marks (weekday_at n) false

-- Day n is a holiday.
unfoldable pub is_holiday : WorkWeek → ℕ → Bool
is_holiday w n = list_any (λ h. h == n) w.holidays

-- Day n is a working day: its weekday is marked, and it is not a holiday.
unfoldable pub is_workday : WorkWeek → ℕ → Bool
is_workday w n = is_marked w.marks n && not (is_holiday w n)

-- The working days of the range from day n on, in ascending order.
abbrev pub workdays_from : WorkWeek → ℕ → List ℕ
workdays_from w n = filter (is_workday w) (days_from n (last_day + 1 - n))

-- The working days before day n, from the nearest back.
abbrev pub workdays_before : WorkWeek → ℕ → List ℕ
workdays_before w n = filter (is_workday w) (days_back_from n)

-- The working days from day m on and before day n.
abbrev pub workdays_within : WorkWeek → ℕ → ℕ → List ℕ
workdays_within w m n = filter (is_workday w) (days_from m (n - m))

-- The k-th working day after day n, or for -k the k-th before it, if the range has it. For 0 it is
-- the first working day from day n on.
abbrev pub nth_workday : WorkWeek → ℤ → ℕ → Option ℕ
nth_workday w (pos zero) n = slice_get (workdays_from w n) 0
nth_workday w (pos (suc k)) n = slice_get (workdays_from w (n + 1)) k
nth_workday w (negsuc k) n = slice_get (workdays_before w n) k
