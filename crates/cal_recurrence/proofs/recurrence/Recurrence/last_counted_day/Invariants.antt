use Rattle.std.proofs.Common.{◌≡◌, Some}
use Rattle.std.specs.List.{last_or}
use Rattle.cal_recurrence.specs.Days.{days_of}
use Rattle.cal_recurrence.proofs.recurrence.Recurrence.last_counted_day.Given as goal

abbrev pub invariant-loop-day : goal.invariant-loop-day
invariant-loop-day l = last_or l.last l.day-iterator ≡ last_or (Some 0) (days_of l.self l.fn.first)
