use Rattle.std.proofs.Common.{ℕ, ◌+◌, ◌<◌, ◌≤◌, length}
use Rattle.caldate_answers.specs.Scans.{IsTextAt}
use Rattle.caldate_answers.proofs.scan.longest_text.Given as goal

-- no longer text begins at the place
abbrev pub invariant-loop-count : goal.invariant-loop-count
invariant-loop-count l = record {
  within : l.place + l.count ≤ length l.line;
  longer : (n : ℕ) → l.count < n → IsTextAt l.filter l.line l.place n → ⊥;
}

abbrev pub decreases-loop-count : goal.decreases-loop-count
decreases-loop-count l = l.count
