-- A pair of a date and a time of day as one number.
use Rattle.std.specs.Prelude.{◌≡◌, ℕ, ℤ, pos, ◌+ℤ◌, ◌*ℤ◌, Option, MatchOption}
use Rattle.cal_clock.specs.Time.{IsTime}
use Rattle.cal_date.specs.Date.{IsDate, julian_day_at}
use Rattle.cal_span.specs.SignedDuration.{day}

-- The number of a pair: its Julian day times the nanoseconds of a day, plus its time of day in
-- nanoseconds.
abbrev pub pair_number : ℕ → ℕ → ℤ
pair_number n t = julian_day_at n *ℤ pos day +ℤ pos t

-- n is a day of the range, t is a time of day, and z is the number of this pair.
pub record HasPairNumber (z : ℤ) (n t : ℕ) : Type 0 where
  pub date : IsDate n
  pub time : IsTime t
  pub number_is : pair_number n t ≡ z

-- No day of the range and time of day have the number z.
abbrev pub NoPair : ℤ → Type 0
NoPair z = (n t : ℕ) → ¬ HasPairNumber z n t

-- r is the pair of a day and a time of day with the number z, or `None` if no pair has it.
abbrev pub IsPairWithNumber : ℤ → Option (ℕ × ℕ) → Type 0
IsPairWithNumber z r = MatchOption r (NoPair z) (λ pair. HasPairNumber z pair.0 pair.1)
