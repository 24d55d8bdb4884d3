-- Columns of Unix times and of readings in one zone.
use Rattle.std.specs.Prelude.{◌≡◌, ℕ, ℤ, pos, Result, Ok, Err}
use Rattle.cal_zone.specs.declared.instants.Instants.{Instants}
use Rattle.cal_zone.specs.declared.local_time_error.LocalTimeError.{LocalTimeError}
use Rattle.cal_zone.specs.declared.policy.Policy.{Policy}
use Rattle.cal_zone.specs.Policy.{instant_by}
use Rattle.cal_zone.specs.Timeline.{Timeline, offset_at, IsMoment}
use Rattle.cal_c.specs.Results.{int64_ok, int64_error, offset_ok, offset_error}
use Rattle.cal_c.specs.declared.status.TheConstants.{RESULT_OUT_OF_RANGE, INVALID_ZONE, INVALID_POLICY}
use Rattle.cal_c.specs.Values.{need◌else◌then◌}
use Rattle.cal_c.specs.Zones.{local_time_status, policy_number, AreInstantsOf, IsForZone, IsPolicy}
use Rattle.cal_c.specs.declared.results.Int64Result.{Int64Result}
use Rattle.cal_c.specs.declared.results.OffsetResult.{OffsetResult}
use Rattle.cal_c.specs.declared.zones.checked_zone.CheckedZone.{CheckedZone}

-- ---- a row of several arrays, which is the result of the single call
abbrev pub offset_row : ℤ → ℕ → OffsetResult
offset_row offset status = record { status = pos status; offset = offset }

abbrev pub int64_row : ℤ → ℕ → Int64Result
int64_row number status = record { status = pos status; unused = 0; number = number }

-- The result of `fots_zone_offset`.
pub record IsOffsetAt (c : CheckedZone) (seconds : ℤ) (r : OffsetResult) : Type 0 where
  pub answer : IsForZone c (λ z. r ≡ offset_ok (offset_at z seconds)) (r ≡ offset_error INVALID_ZONE)

-- The result with an instant, or with an error.
abbrev pub instant_or_error : Result ℤ LocalTimeError → Int64Result
instant_or_error (Ok instant) = int64_ok instant
instant_or_error (Err e) = int64_error (local_time_status e)

-- The result is the instant of a reading by a policy, or out of range for a reading outside -2^60
-- to 2^60.
abbrev pub IsInstantByPolicy : Timeline → ℤ → Policy → Int64Result → Type 0
IsInstantByPolicy z reading policy r =
    need IsMoment reading else r ≡ int64_error RESULT_OUT_OF_RANGE then
    ((instants : Instants) × AreInstantsOf z reading instants × (r ≡ instant_or_error (instant_by policy reading instants)))

-- The result is the instant of a reading by the policy with a number, or the error of the zone or
-- of the policy.
pub record IsInstantOfReading (c : CheckedZone) (reading : ℤ) (policy : ℕ) (r : Int64Result) : Type 0 where
  pub answer : IsForZone c
      (λ z. need IsPolicy policy else r ≡ int64_error INVALID_POLICY then
      ((q : Policy) × (policy_number q ≡ policy) × IsInstantByPolicy z reading q r))
      (r ≡ int64_error INVALID_ZONE)
