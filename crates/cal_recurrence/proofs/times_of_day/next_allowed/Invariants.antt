use Rattle.cal_recurrence.specs.TimesOfDay.{allows_or_start}
use Rattle.cal_recurrence.specs.TimeSearch.{NoneIn}
use Rattle.cal_recurrence.proofs.times_of_day.next_allowed.Given as goal

abbrev pub invariant-loop-value : goal.invariant-loop-value
invariant-loop-value l = NoneIn (allows_or_start l.own l.values) l.first l.value
