-- The days with a weekday: in a month or a year, and from a day on or up to it. A weekday is its
-- index, from 0 for Monday to 6 for Sunday.
use Rattle.std.specs.Prelude.{◌≡◌, ℕ, ◌+◌, ◌-◌, ◌<◌, ◌==◌, ◌&&◌, Bool, List, filter, length, ℤ}
use Rattle.std.specs.Ordering.{int_eq}
use Rattle.cal_time.specs.Date.{last_day, year_at, month_at, weekday_at}
use Rattle.cal_time.specs.IsoWeekDate.{count_before, is_weekday_of_year}
use Rattle.cal_time.specs.Occurrences.{days_from, days_back_from, has_weekday}

-- The test for a day n in the month m of the year y that has the weekday w.
abbrev pub is_weekday_in_month : ℕ → ℤ → ℕ → ℕ → Bool
is_weekday_in_month w y m n = int_eq (year_at n) y && ((month_at n == m) && (weekday_at n == w))

-- Day n is in the month m of the year y and has the weekday w.
pub record IsWeekdayInMonth (y : ℤ) (m w n : ℕ) : Type 0 where
  pub year : year_at n ≡ y
  pub month : month_at n ≡ m
  pub weekday : weekday_at n ≡ w

-- Day n is the k-th day with the weekday w in the month m of the year y, from 1: there are k of
-- them up to and including day n.
pub record IsNthWeekday (y : ℤ) (m w k n : ℕ) : Type 0 where
  pub is : IsWeekdayInMonth y m w n
  pub nth : count_before (is_weekday_in_month w y m) (n + 1) ≡ k

-- Day n is the last day with the weekday w in the month m of the year y: no later day is one of
-- them.
pub record IsLastWeekday (y : ℤ) (m w n : ℕ) : Type 0 where
  pub is : IsWeekdayInMonth y m w n
  pub last : (k : ℕ) → n < k → ¬ IsWeekdayInMonth y m w k

-- The number of days of the range from day n on that pass a test.
abbrev pub count_from : (ℕ → Bool) → ℕ → ℕ
count_from test n = length (filter test (days_from n (last_day + 1 - n)))

-- Day n is the k-th day with the weekday w in the month m of the year y, from 1 at the end: there
-- are k of them from day n on.
pub record IsNthWeekdayFromEnd (y : ℤ) (m w k n : ℕ) : Type 0 where
  pub is : IsWeekdayInMonth y m w n
  pub nth : count_from (is_weekday_in_month w y m) n ≡ k

-- Day n is in the year y and has the weekday w.
pub record IsWeekdayOfYear (y : ℤ) (w n : ℕ) : Type 0 where
  pub year : year_at n ≡ y
  pub weekday : weekday_at n ≡ w

-- Day n is the k-th day with the weekday w in the year y, from 1: there are k of them up to and
-- including day n.
pub record IsNthWeekdayOfYear (y : ℤ) (w k n : ℕ) : Type 0 where
  pub is : IsWeekdayOfYear y w n
  pub nth : count_before (is_weekday_of_year w y) (n + 1) ≡ k

-- Day n is the k-th day with the weekday w in the year y, from 1 at the end: there are k of them
-- from day n on.
pub record IsNthWeekdayOfYearFromEnd (y : ℤ) (w k n : ℕ) : Type 0 where
  pub is : IsWeekdayOfYear y w n
  pub nth : count_from (is_weekday_of_year w y) n ≡ k

-- The days of the range with the weekday w from day n on, in ascending order.
abbrev pub occurrences_from : ℕ → ℕ → List ℕ
occurrences_from w n = filter (has_weekday w) (days_from n (last_day + 1 - n))

-- The days with the weekday w up to day n, from the nearest back.
abbrev pub occurrences_upto : ℕ → ℕ → List ℕ
occurrences_upto w n = filter (has_weekday w) (days_back_from (n + 1))
