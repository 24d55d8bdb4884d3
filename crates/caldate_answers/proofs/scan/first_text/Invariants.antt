use Rattle.std.proofs.Common.{◌-◌, ◌≤◌, length}
use Rattle.caldate_answers.specs.Scans.{NoneFrom}
use Rattle.caldate_answers.proofs.scan.first_text.Given as goal

-- no text began so far
abbrev pub invariant-loop-place : goal.invariant-loop-place
invariant-loop-place l = record {
  from : l.from ≤ l.place;
  none : NoneFrom l.filter l.line l.from l.place;
}

abbrev pub decreases-loop-place : goal.decreases-loop-place
decreases-loop-place l = length l.line - l.place
