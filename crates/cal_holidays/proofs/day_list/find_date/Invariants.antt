use Rattle.std.proofs.Common.{◌<◌, ◌≤◌, get_or, length}
use Rattle.cal_holidays.proofs.day_list.find_date.Given as goal

-- the next day comes after the date
abbrev pub invariant-loop-at : goal.invariant-loop-at
invariant-loop-at l = (l.at ≤ length l.days) × (l.at < length l.days → l.date < get_or l.days l.at 0)

abbrev pub decreases-loop-at : goal.decreases-loop-at
decreases-loop-at l = l.at
