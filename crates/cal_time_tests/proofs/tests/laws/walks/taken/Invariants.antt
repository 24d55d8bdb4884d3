use Rattle.std.proofs.Common.{◌≡◌, ◌++◌, reverse}
use Rattle.cal_date.specs.DateIter.{days_of}
use Rattle.cal_time_tests.proofs.tests.laws.walks.taken.Given as goal

abbrev pub invariant-loop-is_front : goal.invariant-loop-is_front
invariant-loop-is_front l = l.front.items ++ (days_of l.left ++ reverse l.back.items) ≡ days_of l.walk
