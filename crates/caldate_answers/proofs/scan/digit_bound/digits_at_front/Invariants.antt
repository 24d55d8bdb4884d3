use Rattle.std.proofs.Common.{length, ◌-◌, ◌≡◌, ◌+◌, ◌≤◌, drop}
use Rattle.caldate_answers.specs.Scans.{digits_at_front}
use Rattle.caldate_answers.proofs.scan.digit_bound.digits_at_front.Given as goal

-- the digits counted so far, and those at the front of the other bytes
abbrev pub invariant-loop-count : goal.invariant-loop-count
invariant-loop-count l = record {
  within : l.count ≤ length l.bytes;
  digits : l.count + digits_at_front (drop l.count l.bytes) ≡ digits_at_front l.bytes;
}

abbrev pub decreases-loop-count : goal.decreases-loop-count
decreases-loop-count l = length l.bytes - l.count
