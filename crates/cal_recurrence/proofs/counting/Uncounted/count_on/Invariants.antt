use Rattle.std.proofs.Common.{◌≡◌, ◌≤◌, length, take, Some}
use Rattle.std.specs.List.{last_or}
use Rattle.cal_recurrence.specs.CountedSet.{past_end}
use Rattle.cal_recurrence.proofs.counting.Uncounted.count_on.Given as goal

abbrev pub invariant-count : goal.invariant-count
invariant-count l = record {
  last : last_or (Some l.last) l.self.readings ≡ last_or (Some l.initial.last) l.initial.self.readings;
  counted : l.self.readings ≡ take l.self.left (past_end l.rule (Some l.last));
  fewer : length l.self.readings ≤ length l.initial.self.readings;
}
