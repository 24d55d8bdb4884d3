-- The day and the time of a date-time, its order and its moves.
use Rattle.std.proofs.Common.{◌≡◌, ℕ, ◌+◌, ◌*◌, ◌<◌, arith, ℤ, pos, ◌+ℤ◌, ◌-ℤ◌, ◌*ℤ◌, sym, ap, ◌∙◌}
use Rattle.std.proofs.lemmas.Bool.Decides.{nat_tests}
use Rattle.std.proofs.lemmas.Int.{ints}
use Rattle.cal_time.specs.SignedDuration.{day, IsDuration}
use Rattle.cal_time.specs.Date.{IsDate, first_julian_day, julian_day_at}
use Rattle.cal_time.specs.Pair.{pair_number, HasPairNumber, NoPair}
use Rattle.cal_time.proofs.Pairs.{times-day}
use Rattle.cal_datetime.specs.DateTime.{IsDateTime, date_time, date_at, time_at}
use Rattle.cal_datetime.specs.DateTimeLaws.{date_at-date_time, time_at-date_time, IsDateTime-date_time, date_time-parts, IsDate-date_at, IsTime-time_at}

pub ruleset parts = (date_at-date_time, time_at-date_time, IsDateTime-date_time)

-- Date-times are ordered by their days, and on the same day by their times.
pub by_days : (m n t u : ℕ) → t < day → u < day → m < n → m * day + t < n * day + u
by_days m n t u below under h = omega arith

pub ruleset order_of_parts = (by_days, nat_tests, ints)

-- the number of a pair is its date-time, counted from another midnight
abbrev shifted : ℤ → ℤ
shifted z = z +ℤ first_julian_day *ℤ pos day

number-is : (n t : ℕ) → pair_number n t ≡ shifted (date_time n t)
number-is n t = let x = times-day (julian_day_at n) in omega (arith, ints)

-- A moved pair is the moved date-time. If no pair exists, the moved date-time is out of range.
pub record Moves (z w : ℤ) : Type 0 where
  pub number_is : z ≡ shifted w

pub later : (n t : ℕ) (v : ℤ) → Moves (pair_number n t +ℤ v) (date_time n t +ℤ v)
later n t v = record { number_is = omega (arith, ints, number-is n t) }

pub earlier : (n t : ℕ) (v : ℤ) → Moves (pair_number n t -ℤ v) (date_time n t -ℤ v)
earlier n t v = record { number_is = omega (arith, ints, number-is n t) }

pub moved : (z w : ℤ) (m s : ℕ) → Moves z w → HasPairNumber z m s → date_time m s ≡ w
moved z w m s moves h = omega (arith, ints, moves.number_is, h.number_is, number-is m s)

pub not_moved : (z w : ℤ) → Moves z w → NoPair z → ¬ IsDateTime w
not_moved z w moves none h =
    none (date_at w) (time_at w) (record {
      date = IsDate-date_at w h;
      time = IsTime-time_at w;
      number_is = number-is (date_at w) (time_at w) ∙ ap shifted (date_time-parts w h) ∙ sym moves.number_is;
    })

-- the days between two dates and the time between two times are together a duration
pub apart : (m n t u : ℕ) → IsDate m → IsDate n → t < day → u < day → IsDuration ((pos m -ℤ pos n) *ℤ pos day +ℤ (pos t -ℤ pos u))
apart m n t u h k below under =
    let x = times-day (pos m -ℤ pos n) in
    record { at_least = omega (arith, ints); at_most = omega (arith, ints) }

pub apart-is : (m n t u : ℕ) → (pos m -ℤ pos n) *ℤ pos day +ℤ (pos t -ℤ pos u) ≡ date_time m t -ℤ date_time n u
apart-is m n t u = let x = times-day (pos m -ℤ pos n) in omega (arith, ints)
