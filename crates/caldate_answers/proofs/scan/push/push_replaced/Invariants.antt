use Rattle.std.proofs.Common.{◌≡◌, ◌+◌, ◌-◌, ◌≤◌, List, [], ◌++◌, length, ℕ}
use Rattle.caldate_answers.specs.Answers.{Answer}
use Rattle.caldate_answers.specs.Scans.{IsReplaced}
use Rattle.caldate_answers.proofs.scan.push.push_replaced.Given as goal

-- the answers so far fit in a line, and the answer to the rest completes the answer to the line
abbrev pub invariant-loop-text : goal.invariant-loop-text
invariant-loop-text l = record {
  within : l.from ≤ length l.line;
  old : length l.initial.buffer ≤ length l.buffer;
  few : length l.buffer ≤ length l.initial.buffer + 4096;
  so_far : (out : List ℕ) × (l.buffer ≡ l.initial.buffer ++ out)
      × ((answer : Answer) → IsReplaced l.filter l.line answer out l.from → IsReplaced l.filter l.line answer [] 0);
}

abbrev pub decreases-loop-text : goal.decreases-loop-text
decreases-loop-text l = length l.line - l.from
