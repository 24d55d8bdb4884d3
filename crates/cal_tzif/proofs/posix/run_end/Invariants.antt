use Rattle.std.proofs.Common.{◌≡◌, ◌-◌, ◌≤◌, length}
use Rattle.cal_tzif.specs.Posix.{run_end}
use Rattle.cal_tzif.proofs.posix.run_end.Given as goal

abbrev pub invariant-loop-at : goal.invariant-loop-at
invariant-loop-at l = record {
  same : run_end l.quoted l.text (length l.text) l.start ≡ run_end l.quoted l.text (length l.text - (l.at - l.start)) l.at;
  from : l.start ≤ l.at;
  upto : l.at ≤ length l.text;
}

abbrev pub decreases-loop-at : goal.decreases-loop-at
decreases-loop-at l = length l.text - l.at
