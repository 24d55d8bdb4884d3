use Rattle.std.proofs.Common.{length, ◌-◌}
use Rattle.cal_zone.specs.Timeline.{at}
use Rattle.cal_zone.specs.Split.{IsBracket}
use Rattle.cal_zone.proofs.table.Table.search.Given as goal

abbrev pub invariant-loop-low : goal.invariant-loop-low
invariant-loop-low l = IsBracket (at l.self) (length l.self) l.instant l.low l.high

abbrev pub decreases-loop-low : goal.decreases-loop-low
decreases-loop-low l = l.high - l.low
