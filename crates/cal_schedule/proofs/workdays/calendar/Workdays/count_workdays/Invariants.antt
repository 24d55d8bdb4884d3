use Rattle.std.proofs.Common.{◌≡◌, ◌+◌, ◌≤◌}
use Rattle.cal_schedule.specs.WorkdaysSplit.{marked_count}
use Rattle.cal_schedule.proofs.workdays.calendar.Workdays.count_workdays.Given as goal

abbrev pub invariant-loop-index : goal.invariant-loop-index
invariant-loop-index l = record { number : l.held + marked_count l.self l.start ≡ marked_count l.self l.index; most : l.held ≤ l.index }
