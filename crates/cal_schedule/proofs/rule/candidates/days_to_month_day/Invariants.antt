use Rattle.std.proofs.Common.{◌≡◌, ◌+◌, ◌-◌, ◌≤◌}
use Rattle.std.specs.List.{list_any}
use Rattle.cal_time.specs.Date.{day_of_month_at, month_at, year_at}
use Rattle.cal_time.specs.Lengths.{days_in_month}
use Rattle.cal_schedule.specs.Rule.{is_month_day}
use Rattle.cal_schedule.proofs.Candidates.{NoneNext}
use Rattle.cal_schedule.proofs.rule.candidates.days_to_month_day.Given as goal

abbrev pub invariant-loop-days : goal.invariant-loop-days
invariant-loop-days l = record {
  some : 1 ≤ l.days;
  within : day_of_month_at l.fn.day + l.days ≤ days_in_month (year_at l.fn.day) (month_at l.fn.day) + 1;
  none : NoneNext (λ k. list_any (is_month_day k) l.numbers) l.fn.day l.days;
}

abbrev pub decreases-loop-days : goal.decreases-loop-days
decreases-loop-days l = l.length + 1 - (l.at + l.days)
