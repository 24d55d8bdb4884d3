use Rattle.std.proofs.Common.{length, ◌-◌, ◌≡◌, ◌<◌, ◌≤◌, ℕ, false}
use Rattle.std.specs.Prelude.{slice_index}
use Rattle.caldate_answers.specs.Scans.{is_mark}
use Rattle.caldate_answers.proofs.scan.start.mark_index.Given as goal

-- no mark came so far
abbrev pub invariant-loop-index : goal.invariant-loop-index
invariant-loop-index l = record {
  from : l.from ≤ l.index;
  none : (j : ℕ) → l.from ≤ j → j < l.index → is_mark (slice_index l.line j) ≡ false;
}

abbrev pub decreases-loop-index : goal.decreases-loop-index
decreases-loop-index l = length l.line - l.index
