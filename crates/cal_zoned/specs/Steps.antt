-- Steps of a period from a local date-time or from a date-time in a zone, each counted from the
-- start. Their numbers fit in an i32.
use Rattle.std.specs.Prelude.{◌≡◌, ℕ, ◌+◌, ◌<◌, ℤ, pos, ◌+ℤ◌, ◌≤ℤ◌, ◌<ℤ◌, Option, Some, None, Result, Err}
use Rattle.cal_datetime.specs.DateTime.{IsDateTime}
use Rattle.cal_schedule.specs.Period.{Parts, days_of, months_of}
use Rattle.cal_zone.specs.declared.policy.Policy.{Policy}
use Rattle.cal_zone.specs.declared.local_time_error.LocalTimeError.{LocalTimeError}
use Rattle.cal_zone.specs.declared.local_time_error.LocalTimeError.TheVariants.{OutOfRange}
use Rattle.cal_zoned.specs.Period.{IsNthLater, IsNthPeriodLater}
use Rattle.cal_zoned.specs.Zoned.{InZone}

-- A period that leads on: no part is negative, and one is positive.
abbrev pub IsPositive : Parts → Type 0
IsPositive p = (pos 0 ≤ℤ months_of p) × (pos 0 ≤ℤ days_of p) × (pos 0 ≤ℤ p.exact) × (pos 0 <ℤ (months_of p +ℤ days_of p +ℤ p.exact))

-- One more than the number of the last step.
abbrev pub end_of_steps : ℕ
end_of_steps = 2_147_483_648

-- Step n is in the range and not after t.
pub record IsStepUpTo (z t : ℤ) (p : Parts) (n : ℤ) : Type 0 where
  pub there : ℤ
  pub in_range : IsDateTime there
  pub later : IsNthLater z p n there
  pub in_time : there ≤ℤ t

-- n is the number of the last step that isn't after t.
pub record IsLastStep (z t : ℤ) (p : Parts) (n : ℤ) : Type 0 where
  pub holds : IsStepUpTo z t p n
  pub fits : n <ℤ pos end_of_steps
  pub last : (k : ℤ) → n <ℤ k → k <ℤ pos end_of_steps → ¬ IsStepUpTo z t p k

-- The steps from the one with the number `next` on.
pub record Series : Type 0 where
  pub start : ℤ
  pub period : Parts
  pub next : ℕ

abbrev pub series : ℤ → Parts → ℕ → Series
series start period next = record { start = start; period = period; next = next }

-- The local date-time r is the next step.
abbrev pub IsNextStep : Series → ℤ → Type 0
IsNextStep s r = IsNthLater s.start s.period (pos s.next) r

-- The call returns the next step and goes past it, or returns `None` if no step is left or the next
-- one is out of range.
abbrev pub YieldsStep : Series → Option ℤ → Series → Type 0
YieldsStep old None new = (old.next < end_of_steps → (r : ℤ) → IsDateTime r → ¬ IsNextStep old r) × (new ≡ old)
YieldsStep old (Some there) new = (old.next < end_of_steps) × IsDateTime there × IsNextStep old there × (new ≡ series old.start old.period (old.next + 1))

-- The steps in a zone from the one with the number `next` on.
pub record ZonedSeries : Type 0 where
  pub start : InZone
  pub period : Parts
  pub policy : Policy
  pub next : ℕ

abbrev pub zoned_series : InZone → Parts → Policy → ℕ → ZonedSeries
zoned_series start period policy next = record { start = start; period = period; policy = policy; next = next }

-- The result is the next step.
abbrev pub IsNextResult : ZonedSeries → Result InZone LocalTimeError → Type 0
IsNextResult s r = IsNthPeriodLater s.policy s.start s.period (pos s.next) r

-- The call returns the next result and goes past it, or returns `None` if no step is left or the
-- next one is out of range, which is never an item.
abbrev pub YieldsResult : ZonedSeries → Option (Result InZone LocalTimeError) → ZonedSeries → Type 0
YieldsResult old None new = (old.next < end_of_steps → IsNextResult old (Err OutOfRange)) × (new ≡ old)
YieldsResult old (Some r) new = (old.next < end_of_steps) × ¬ (r ≡ Err OutOfRange) × IsNextResult old r × (new ≡ zoned_series old.start old.period old.policy (old.next + 1))
