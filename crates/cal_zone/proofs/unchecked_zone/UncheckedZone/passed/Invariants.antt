use Rattle.std.proofs.Common.{length, ◌≤◌, ◌-◌, ℕ, suc, ◌≡◌}
use Rattle.std.specs.Prelude.{◌≤ℤ◌}
use Rattle.cal_zone.specs.Timeline.{ends}
use Rattle.cal_zone.proofs.unchecked_zone.UncheckedZone.passed.Given as goal

abbrev pub invariant-back : goal.invariant-back
invariant-back l = l.count ≤ length l.self.changes

abbrev pub decreases-back : goal.decreases-back
decreases-back l = l.count

abbrev pub invariant-on : goal.invariant-on
invariant-on l = record {
  inside : l.count ≤ length l.self.changes;
  below : (k : ℕ) → suc k ≡ l.count → ends l.self.first.offset l.self.changes k ≤ℤ l.reading;
}

abbrev pub decreases-on : goal.decreases-on
decreases-on l = length l.self.changes - l.count
