use Rattle.std.proofs.Common.{ℕ, ◌<◌, pos, get_or}
use Rattle.cal_c.specs.CheckedWorkdays.{IsNumberBetweenInView}
use Rattle.cal_c.specs.Columns.{number_row}
use Rattle.cal_c.proofs.columns.checked_workdays.fots_workdays_view_between_dates.Given as goal

abbrev pub invariant-loop-row : goal.invariant-loop-row
invariant-loop-row l = (k : ℕ) → k < l.row → IsNumberBetweenInView l.workdays (get_or l.dates k (pos 0)) (get_or l.others k (pos 0)) (number_row (get_or l.numbers k (pos 0)) (get_or l.statuses k 0))
