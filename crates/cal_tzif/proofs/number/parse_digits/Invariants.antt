use Rattle.std.proofs.Common.{◌≡◌, ◌<◌, ◌≤◌, length}
use Rattle.cal_tzif.specs.Posix.{digits}
use Rattle.cal_tzif.proofs.number.parse_digits.Given as goal

abbrev pub invariant-loop-left : goal.invariant-loop-left
invariant-loop-left l = record {
  same : digits l.text l.most l.start 0 ≡ digits l.text l.left l.at l.value;
  few : l.left ≤ 3;
  three : l.left ≡ 3 → l.value < 1;
  two : l.left ≡ 2 → l.value < 10;
  one : l.left ≡ 1 → l.value < 100;
  none : l.value < 1000;
  from : l.start ≤ l.at;
  upto : l.at ≤ length l.text;
}

abbrev pub decreases-loop-left : goal.decreases-loop-left
decreases-loop-left l = l.left
