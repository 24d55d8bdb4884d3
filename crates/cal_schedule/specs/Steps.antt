-- Steps of a period from a start, each counted from the start.
use Rattle.std.specs.Prelude.{◌≡◌, ℕ, ◌+◌, ◌≤◌, ℤ, pos, ◌+ℤ◌, ◌*ℤ◌, ◌≤ℤ◌, ◌<ℤ◌, Option, Some, None}
use Rattle.cal_time.specs.Date.{IsDate}
use Rattle.cal_schedule.specs.Period.{IsDaysLater, Parts, days_of, months_of}
use Rattle.cal_schedule.specs.Until.{IsGreatest}

-- A period of positive months or days.
abbrev pub IsPositive : Parts → Type 0
IsPositive p = (pos 0 ≤ℤ months_of p) × (pos 0 ≤ℤ days_of p) × (pos 0 <ℤ (months_of p +ℤ days_of p))

-- A period that can be repeated from a date: it is positive and has no exact part.
abbrev pub IsRepeated : Parts → Type 0
IsRepeated p = IsPositive p × (p.exact ≡ pos 0)

-- Step n is a day of the range and not after day t.
pub record IsStepUpTo (start t : ℕ) (p : Parts) (n : ℤ) : Type 0 where
  pub day : ℕ
  pub date : IsDate day
  pub later : IsDaysLater start (n *ℤ months_of p) (n *ℤ days_of p) day
  pub in_time : day ≤ t

-- n is the last step that is not after day t.
abbrev pub IsGreatestStep : ℕ → ℕ → Parts → ℤ → Type 0
IsGreatestStep start t p n = IsGreatest (IsStepUpTo start t p) n

-- The steps from the one with the number `next` on.
pub record Series : Type 0 where
  pub start : ℕ
  pub period : Parts
  pub next : ℕ

abbrev pub series : ℕ → Parts → ℕ → Series
series start period next = record { start = start; period = period; next = next }

-- Day r is the next step.
abbrev pub IsNextStep : Series → ℕ → Type 0
IsNextStep s r = IsDaysLater s.start (pos s.next *ℤ months_of s.period) (pos s.next *ℤ days_of s.period) r

-- The call returns the next step and goes past it, or returns `None` if it is out of range.
abbrev pub YieldsStep : Series → Option ℕ → Series → Type 0
YieldsStep old None new = ((r : ℕ) → IsDate r → ¬ IsNextStep old r) × (new ≡ old)
YieldsStep old (Some day) new = IsDate day × IsNextStep old day × (new ≡ series old.start old.period (old.next + 1))
