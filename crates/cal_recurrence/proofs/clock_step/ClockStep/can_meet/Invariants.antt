use Rattle.std.proofs.Common.{◌-◌, ◌≤◌}
use Rattle.std.specs.Prelude.{◌&&◌}
use Rattle.cal_time.specs.SignedDuration.{day}
use Rattle.cal_datetime.specs.DateTime.{time_at}
use Rattle.cal_recurrence.specs.ClockSearch.{can_match}
use Rattle.cal_recurrence.specs.TimeSearch.{NoneIn}
use Rattle.cal_recurrence.specs.TimesOfDay.{matches_time}
use Rattle.cal_recurrence.proofs.clock_step.ClockStep.can_meet.Given as goal

abbrev pub invariant-loop-time : goal.invariant-loop-time
invariant-loop-time l = record {
  most : l.from ≤ day;
  none : NoneIn (λ t. matches_time l.times (time_at l.start) t && can_match l.self l.times l.start l.divisor t) 0 l.from;
}

abbrev pub decreases-loop-time : goal.decreases-loop-time
decreases-loop-time l = day - l.from
