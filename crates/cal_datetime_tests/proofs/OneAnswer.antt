-- Contracts that allow only one result, if the search doesn't find the proof.
use Rattle.std.proofs.Common.{◌≡◌, ℤ, arith, Result, Ok, ◌↔◌}
use Rattle.std.proofs.lemmas.Int.{ints}
use Rattle.cal_time.specs.ComponentError.{FailsWith}
use Rattle.cal_time.specs.declared.error.ComponentRange.{ComponentRange}
use Rattle.cal_datetime.specs.DateTime.{IsDateTime}
use Rattle.cal_datetime.specs.OffsetDateTime.{LocalAndOffset, timestamp_out_of_range}

-- The value of a number in range, or the only error.
pub in_range-one : (z : ℤ) (v : LocalAndOffset) (r s : Result LocalAndOffset ComponentRange)
    → (IsDateTime z → r ≡ Ok v) → (FailsWith timestamp_out_of_range r ↔ ¬ IsDateTime z)
    → (IsDateTime z → s ≡ Ok v) → (FailsWith timestamp_out_of_range s ↔ ¬ IsDateTime z) → r ≡ s
in_range-one z v r s vr rr vs rs = grind (arith, ints)
