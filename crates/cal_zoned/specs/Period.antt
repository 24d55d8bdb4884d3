-- A period after a date-time: the months and then the days move the date, and then the exact part
-- is added. In a zone the clock keeps its reading, which is resolved once, and the exact part moves
-- the instant.
use Rattle.std.specs.Prelude.{ℕ, ℤ, pos, ◌≡◌, ◌+ℤ◌, ◌*ℤ◌, Result, Ok, Err, IfOk}
use Rattle.cal_time.specs.Date.{IsDate}
use Rattle.cal_datetime.specs.DateTime.{date_at, with_date}
use Rattle.cal_datetime.specs.OffsetDateTime.{instant}
use Rattle.cal_schedule.specs.Period.{Parts, IsDaysLater, days_of, months_of}
use Rattle.cal_zone.specs.Timeline.{Timeline}
use Rattle.cal_zone.specs.declared.policy.Policy.{Policy}
use Rattle.cal_zone.specs.declared.local_time_error.LocalTimeError.{LocalTimeError}
use Rattle.cal_zone.specs.declared.local_time_error.LocalTimeError.TheVariants.{OutOfRange}
use Rattle.cal_zoned.specs.Resolved.{IsResolved}
use Rattle.cal_zoned.specs.Zoned.{InZone, IsSeen}

-- The local date-time r is some months, then some days and then some nanoseconds after z.
pub record IsLaterBy (z months days nanoseconds r : ℤ) : Type 0 where
  pub day : ℕ
  pub in_range : IsDate day
  pub moved : IsDaysLater (date_at z) months days day
  pub exact : r ≡ with_date z day +ℤ nanoseconds

-- It is a period after z, or as many of them as n says.
abbrev pub IsLater : ℤ → Parts → ℤ → Type 0
IsLater z p r = IsLaterBy z (months_of p) (days_of p) p.exact r

abbrev pub IsNthLater : ℤ → Parts → ℤ → ℤ → Type 0
IsNthLater z p n r = IsLaterBy z (n *ℤ months_of p) (n *ℤ days_of p) (n *ℤ p.exact) r

-- No months and no days.
abbrev pub IsExact : ℤ → ℤ → Type 0
IsExact months days = (months ≡ pos 0) × (days ≡ pos 0)

-- The result is the date-time that a reading means by the policy, moved by a duration.
pub record IsMovedThen (p : Policy) (zone : Timeline) (reading exact : ℤ) (r : Result InZone LocalTimeError) : Type 0 where
  pub middle : Result InZone LocalTimeError
  pub resolved : IsResolved p zone reading middle
  pub later : (m : InZone) → middle ≡ Ok m → IsSeen zone (instant m.moment +ℤ exact) r
  pub error : (e : LocalTimeError) → middle ≡ Err e → r ≡ Err e

-- The result is some months, then some days and then some nanoseconds after a date-time in a zone.
-- Without months and days nothing is resolved.
pub record IsMovedBy (p : Policy) (m : InZone) (months days nanoseconds : ℤ) (r : Result InZone LocalTimeError) : Type 0 where
  pub exact : IsExact months days → IsSeen m.zone (instant m.moment +ℤ nanoseconds) r
  pub moved :
      ¬ IsExact months days → (n : ℕ) → IsDate n → IsDaysLater (date_at m.moment.local) months days n
      → IsMovedThen p m.zone (with_date m.moment.local n) nanoseconds r
  pub none :
      ¬ IsExact months days → ((n : ℕ) → IsDate n → ¬ IsDaysLater (date_at m.moment.local) months days n)
      → r ≡ Err OutOfRange
  pub is : ¬ IsExact months days → IfOk r (λ _. (n : ℕ) × IsDate n × IsDaysLater (date_at m.moment.local) months days n)

-- It is a period after the date-time, or as many of them as n says.
abbrev pub IsPeriodLater : Policy → InZone → Parts → Result InZone LocalTimeError → Type 0
IsPeriodLater p m period r = IsMovedBy p m (months_of period) (days_of period) period.exact r

abbrev pub IsNthPeriodLater : Policy → InZone → Parts → ℤ → Result InZone LocalTimeError → Type 0
IsNthPeriodLater p m period n r = IsMovedBy p m (n *ℤ months_of period) (n *ℤ days_of period) (n *ℤ period.exact) r
