use Rattle.std.proofs.Common.{◌≡◌, ℕ, ◌≤◌, take}
use Rattle.cal_span.specs.SignedDuration.{IsDuration, sum_of}
use Rattle.cal_span.proofs.signed_duration.SignedDuration.try_sum.Given as goal

abbrev pub invariant-loop-duration : goal.invariant-loop-duration
invariant-loop-duration l =
    (l.total ≡ sum_of (take l.duration-index l.durations))
    × ((n : ℕ) → n ≤ l.duration-index → IsDuration (sum_of (take n l.durations)))
