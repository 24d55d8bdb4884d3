use Rattle.std.proofs.Common.{length, ◌-◌, ◌≡◌, ◌<◌, ◌≤◌, ℕ, drop, false}
use Rattle.caldate_answers.specs.Scans.{starts_with_digits}
use Rattle.caldate_answers.proofs.scan.digit_start.digits_place.Given as goal

-- no two digits came so far
abbrev pub invariant-loop-place : goal.invariant-loop-place
invariant-loop-place l = record {
  from : l.from ≤ l.place;
  none : (j : ℕ) → l.from ≤ j → j < l.place → starts_with_digits (drop j l.line) ≡ false;
}

abbrev pub decreases-loop-place : goal.decreases-loop-place
decreases-loop-place l = length l.line - l.place
