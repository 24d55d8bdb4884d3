use Rattle.std.proofs.Common.{◌≡◌, ◌≤◌}
use Rattle.cal_time.specs.IsoWeekDate.{count_before}
use Rattle.cal_recurrence.specs.TimesOfDay.{allows_or_start}
use Rattle.cal_recurrence.proofs.times_of_day.count_allowed.Given as goal

abbrev pub invariant-loop-value : goal.invariant-loop-value
invariant-loop-value l = record { count_is : l.count ≡ count_before (allows_or_start l.own l.values) l.value; most : l.count ≤ l.value }
