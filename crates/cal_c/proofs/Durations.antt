-- The result of an optional duration.
use Rattle.std.proofs.Common.{◌≡◌, refl, ap, ℤ, Option, Some, None, SomeIff}
use Rattle.cal_time.specs.SignedDuration.{IsDuration}
use Rattle.cal_c.specs.Results.{duration_ok, duration_error, duration_or_out_of_range, IsDurationOrOutOfRange}
use Rattle.cal_c.specs.declared.status.TheConstants.{RESULT_OUT_OF_RANGE}

pub duration-none : (r : Option ℤ) (P : Type 0) (v : ℤ) → SomeIff r P v → (P → ⊥) → duration_or_out_of_range r ≡ duration_error RESULT_OUT_OF_RANGE
duration-none None P v e out = refl
duration-none (Some x) P v e out = absurd (out e.0)

pub duration-some : (r : Option ℤ) (P : Type 0) (v : ℤ) → SomeIff r P v → P → duration_or_out_of_range r ≡ duration_ok v
duration-some None P v e h = absurd (e h)
duration-some (Some x) P v e h = ap duration_ok e.1

pub duration-if-any : (r : Option ℤ) (v : ℤ) → SomeIff r (IsDuration v) v → IsDurationOrOutOfRange v (duration_or_out_of_range r)
duration-if-any r v e = record { result_out_of_range = duration-none r _ v e; duration = duration-some r _ v e }
