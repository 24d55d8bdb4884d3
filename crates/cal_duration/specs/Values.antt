-- The value of a duration in text, or the first part that is out of range.
use Rattle.std.specs.Prelude.{◌≡◌, ◌⊎◌, ℕ, ◌+◌, ◌*◌, Bool, ℤ, pos, neg_ℤ, List, FitsSigned, if◌then◌else◌}
use Rattle.std.specs.Int.{w32}
use Rattle.cal_time.specs.SignedDuration.{IsDuration, hour, minute, second}
use Rattle.cal_schedule.specs.Period.{Parts, parts}
use Rattle.cal_duration.specs.declared.error.DurationComponent.{DurationComponent}
use Rattle.cal_duration.specs.declared.error.DurationComponent.TheVariants.{Years, Months, Weeks, Days, Hours, Minutes, Seconds}
use Rattle.cal_duration.specs.declared.numbers.TimeNumbers.{TimeNumbers}
use Rattle.cal_duration.specs.declared.numbers.Numbers.{Numbers}
use Rattle.cal_duration.specs.Form.{HasPeriodForm, HasDurationForm}

-- ---- values
-- A number with its sign.
abbrev pub signed : Bool → ℕ → ℤ
signed is_negative n = if is_negative then neg_ℤ (pos n) else pos n

-- The nanoseconds of hours, minutes, seconds and nanoseconds.
abbrev pub nanoseconds_in : TimeNumbers → ℕ
nanoseconds_in t = t.hours * hour + t.minutes * minute + t.seconds * second + t.nanoseconds

abbrev pub exact_of : Numbers → ℤ
exact_of m = signed m.is_negative (nanoseconds_in m.time)

abbrev pub period_of : Numbers → Parts
period_of m = parts (signed m.is_negative m.date.years) (signed m.is_negative m.date.months) (signed m.is_negative m.date.weeks) (signed m.is_negative m.date.days) (exact_of m)

-- A number of years, months, weeks or days fits in 32 bits with its sign.
abbrev pub Fits : Numbers → ℕ → Type 0
Fits m n = FitsSigned w32 (signed m.is_negative n)

-- The exact duration v has the numbers m.
abbrev pub IsDurationOf : Numbers → ℤ → Type 0
IsDurationOf m v = IsDuration (exact_of m) × (v ≡ exact_of m)

-- The period p has the numbers m.
pub record IsPeriodOf (m : Numbers) (p : Parts) : Type 0 where
  pub years : Fits m m.date.years
  pub months : Fits m m.date.months
  pub weeks : Fits m m.date.weeks
  pub days : Fits m m.date.days
  pub exact : IsDuration (exact_of m)
  pub value : p ≡ period_of m

-- The bytes are a text of this period, and of this exact duration.
abbrev pub IsPeriodText : List ℕ → Parts → Type 0
IsPeriodText bytes p = (m : Numbers) × HasPeriodForm bytes m × IsPeriodOf m p

abbrev pub IsDurationText : List ℕ → ℤ → Type 0
IsDurationText bytes v = (m : Numbers) × HasDurationForm bytes m × IsDurationOf m v

-- ---- the first part that is out of range
-- The part c is out of range, or it is in range and one of the others isn't.
abbrev pub First : DurationComponent → Type 0 → (DurationComponent → Type 0) → DurationComponent → Type 0
First c InRange Others why = ((why ≡ c) × ¬ InRange) ⊎ (InRange × Others why)

abbrev pub Never : DurationComponent → Type 0
Never why = ⊥

-- The hours, the hours and the minutes, or all parts together are out of range.
abbrev pub IsDurationError : Numbers → DurationComponent → Type 0
IsDurationError m =
    let t = m.time in
    First Hours (IsDuration (signed m.is_negative (t.hours * hour)))
    (First Minutes (IsDuration (signed m.is_negative (t.hours * hour + t.minutes * minute)))
    (First Seconds (IsDuration (exact_of m)) Never))

abbrev pub IsPeriodError : Numbers → DurationComponent → Type 0
IsPeriodError m =
    First Years (Fits m m.date.years) (First Months (Fits m m.date.months)
    (First Weeks (Fits m m.date.weeks) (First Days (Fits m m.date.days) (IsDurationError m))))
