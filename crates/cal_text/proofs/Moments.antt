-- A moment has one day, one time of day and one offset.
use Rattle.std.proofs.Common.{◌≡◌, ℕ, ℤ, ap, ◌∙◌}
use Rattle.cal_datetime.specs.DateTime.{IsDateTime, date_time, date_at, time_at}
use Rattle.cal_datetime.specs.DateTimeLaws.{date_time-parts, IsDate-date_at, IsTime-time_at}
use Rattle.cal_datetime.specs.OffsetDateTime.{LocalAndOffset}

pub ruleset parts = (IsDate-date_at, IsTime-time_at)

abbrev pub shown : ℕ → ℕ → ℤ → LocalAndOffset
shown n t o = record { local = date_time n t; offset = o }

pub made : (m : LocalAndOffset) (n t : ℕ) (o : ℤ) → IsDateTime m.local → n ≡ date_at m.local → t ≡ time_at m.local → o ≡ m.offset → shown n t o ≡ m
made m n t o range date time offset =
    let local = ap (λ k. date_time k t) date ∙ ap (λ k. date_time (date_at m.local) k) time ∙ date_time-parts m.local range in
    λ i. record { local = local i; offset = offset i }
