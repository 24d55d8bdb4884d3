use Rattle.std.proofs.Common.{ℕ, ◌-◌, ◌<◌, ◌≤◌}
use Rattle.cal_time.specs.Date.{last_day, IsDate}
use Rattle.cal_datetime.specs.DateTime.{date_at}
use Rattle.cal_zone.specs.Timeline.{InOrder}
use Rattle.cal_zoned.specs.Unchecked.{in_zone}
use Rattle.cal_zoned.specs.Until.{IsBackTo}
use Rattle.cal_zoned.proofs.unchecked.until.last_back_to.Given as goal

abbrev pub invariant-loop-to : goal.invariant-loop-to
invariant-loop-to l = record {
  in_range : IsDate l.date;
  on_way : date_at l.to.local ≤ l.date;
  none : InOrder l.zone → (k : ℕ) → k < l.date → date_at l.to.local ≤ k → ¬ IsBackTo l.policy (in_zone l.zone l.from) (in_zone l.zone l.to) k;
}

abbrev pub decreases-loop-to : goal.decreases-loop-to
decreases-loop-to l = last_day - l.date
