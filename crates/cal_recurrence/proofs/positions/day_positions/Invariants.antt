use Rattle.std.proofs.Common.{◌≡◌, ◌≤◌, length, map, take}
use Rattle.cal_schedule.specs.Values.{most_values}
use Rattle.cal_recurrence.specs.TimeSearch.{day_position}
use Rattle.cal_recurrence.proofs.positions.day_positions.Given as goal

abbrev pub invariant-loop-position : goal.invariant-loop-position
invariant-loop-position l = record { few : length l.items ≤ most_values; so_far : l.days ≡ map (day_position l.per_day) (take l.position-index l.items) }
