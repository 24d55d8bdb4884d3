-- Rounding of a number to a multiple of a unit: to the nearest multiple among those that the mode
-- allows. The modes have the names of Temporal, and their meaning.
use Rattle.std.specs.Prelude.{◌≡◌, ◌≢◌, ⊤, ℕ, ◌%◌, ◌<◌, ◌≤◌, ℤ, pos, ◌+ℤ◌, ◌-ℤ◌, ◌*ℤ◌, ◌≤ℤ◌, ◌<ℤ◌, unsigned_abs, Option, SomeIff}
use Rattle.cal_time.specs.SignedDuration.{day}
use Rattle.cal_time.specs.Time.{modulo_day}
use Rattle.cal_datetime.specs.DateTime.{IsDateTime, date_at, date_time, time_at}
use Rattle.cal_rounding.specs.declared.rounding_mode.RoundingMode.{RoundingMode}
use Rattle.cal_rounding.specs.declared.rounding_mode.RoundingMode.TheVariants.{Floor, Ceil, Trunc, HalfCeil, HalfEven}

-- The multiple of a unit with this number.
abbrev pub multiple : ℕ → ℤ → ℤ
multiple unit k = k *ℤ pos unit

-- The distance of two numbers.
abbrev pub distance : ℤ → ℤ → ℕ
distance a b = unsigned_abs (a -ℤ b)

-- A number is even if 2 divides it.
abbrev pub IsEven : ℤ → Type 0
IsEven n = unsigned_abs n % 2 ≡ 0

-- A mode allows rounding z to r: `Floor` down, `Ceil` up, `Trunc` toward zero, and the others both
-- ways.
abbrev pub IsAllowed : RoundingMode → ℤ → ℤ → Type 0
IsAllowed Floor z r = r ≤ℤ z
IsAllowed Ceil z r = z ≤ℤ r
IsAllowed Trunc z r = unsigned_abs r ≤ unsigned_abs z
IsAllowed HalfCeil z r = ⊤
IsAllowed HalfEven z r = ⊤

-- The mode prefers the multiple with the number n to another one at the same distance, with the
-- number k: `HalfEven` if n is even, and the other modes if n is greater.
abbrev pub IsPreferred : RoundingMode → ℤ → ℤ → Type 0
IsPreferred HalfEven n k = IsEven n
IsPreferred _ n k = k <ℤ n

-- z is rounded to r: no multiple that the mode allows is nearer to z, and r is preferred to each
-- other one at the same distance.
pub record IsRounded (mode : RoundingMode) (unit : ℕ) (z r : ℤ) : Type 0 where
  pub number : ℤ
  pub is_multiple : r ≡ multiple unit number
  pub allowed : IsAllowed mode z r
  pub nearest : (k : ℤ) → IsAllowed mode z (multiple unit k) → distance z r ≤ distance z (multiple unit k)
  pub tie :
      (k : ℤ) → IsAllowed mode z (multiple unit k) → k ≢ number
      → distance z r ≡ distance z (multiple unit k) → IsPreferred mode number k

-- The result is the number to which z is rounded, or `None` if it is out of range.
pub record RoundsWithin (IsInRange : ℤ → Type 0) (mode : RoundingMode) (unit : ℕ) (z : ℤ) (r : Option ℤ) : Type 0 where
  pub to : ℤ
  pub rounded : IsRounded mode unit z to
  pub value : SomeIff r (IsInRange to) to

-- A number of nanoseconds is a unit if it divides a day.
pub record IsRoundingUnit (n : ℕ) : Type 0 where
  pub positive : 0 < n
  pub divides_day : day % n ≡ 0

-- The result is a time of day rounded to a multiple of a unit since midnight. 24:00 is 0:00.
pub record IsRoundedTime (mode : RoundingMode) (unit t r : ℕ) : Type 0 where
  pub to : ℤ
  pub rounded : IsRounded mode unit (pos t) to
  pub value : r ≡ modulo_day to

-- The date-time at this time since the midnight of another one. 24:00 is the midnight after it.
abbrev pub since_midnight : ℤ → ℤ → ℤ
since_midnight z to = date_time (date_at z) 0 +ℤ to

-- The result is made of a date-time whose time of day is rounded, or is `None` if the date-time is
-- out of range.
pub record RoundsTimeOf {T : Type 0} (mode : RoundingMode) (unit : ℕ) (z : ℤ) (make : ℤ → T) (r : Option T) : Type 0 where
  pub to : ℤ
  pub rounded : IsRounded mode unit (pos (time_at z)) to
  pub value : SomeIff r (IsDateTime (since_midnight z to)) (make (since_midnight z to))
