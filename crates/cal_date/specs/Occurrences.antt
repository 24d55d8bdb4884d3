-- The days with a weekday after a day, and before it. A weekday is its index, from 0 for Monday to
-- 6 for Sunday.
use Rattle.std.specs.Prelude.{ℕ, zero, suc, ◌+◌, ◌-◌, ◌==◌, Bool, List, [], ◌∷◌, Option, None, filter, slice_get}
use Rattle.cal_date.specs.Date.{last_day, weekday_at}

-- The list of `count` days from day n on.
unfoldable pub days_from : ℕ → ℕ → List ℕ
days_from n zero = []
days_from n (suc count) = n ∷ days_from (n + 1) count

-- The days before day n, from the nearest back to day 0.
unfoldable pub days_back_from : ℕ → List ℕ
days_back_from zero = []
days_back_from (suc n) = n ∷ days_back_from n

-- Day n has the weekday w.
abbrev pub has_weekday : ℕ → ℕ → Bool
has_weekday w n = weekday_at n == w

-- The days of the range after day n that have the weekday w, in order.
abbrev pub next_occurrences : ℕ → ℕ → List ℕ
next_occurrences w n = filter (has_weekday w) (days_from (n + 1) (last_day - n))

-- The days before day n that have the weekday w, from the nearest back.
abbrev pub prev_occurrences : ℕ → ℕ → List ℕ
prev_occurrences w n = filter (has_weekday w) (days_back_from n)

-- The k-th day of a list, counted from 1.
abbrev pub kth : ℕ → List ℕ → Option ℕ
kth zero days = None
kth (suc k) days = slice_get days k
