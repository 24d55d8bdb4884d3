use Rattle.std.proofs.Common.{ℕ, ◌<◌, pos, get_or}
use Rattle.cal_c.specs.CheckedWorkdays.{IsDateLaterInView}
use Rattle.cal_c.specs.Columns.{date_row}
use Rattle.cal_c.proofs.columns.checked_workdays.fots_workdays_view_add_dates.Given as goal

abbrev pub invariant-loop-row : goal.invariant-loop-row
invariant-loop-row l = (k : ℕ) → k < l.row → IsDateLaterInView l.workdays (get_or l.dates k (pos 0)) (get_or l.days k (pos 0)) (date_row (get_or l.moved k (pos 0)) (get_or l.statuses k 0))
