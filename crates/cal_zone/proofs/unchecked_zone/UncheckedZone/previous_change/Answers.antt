use Rattle.std.proofs.Common.{◌≡◌, arith, subst, suc, ◌-◌, ℕ, ℤ, w64}
use Rattle.std.proofs.lemmas.Int.{to_z-of_z}
use Rattle.std.specs.Prelude.{length, ◌<ℤ◌}
use Rattle.cal_zone.specs.Split.{IsSplit}
use Rattle.cal_zone.specs.Timeline.{at}
use Rattle.cal_zone.proofs.Orders.{at_rises}
use Rattle.cal_zone.proofs.Splits.{rising_split, same_split}
use Rattle.cal_zone.proofs.unchecked_zone.UncheckedZone.previous_change.Goals as goal

pub returns-else-count-eq0-clause-some : goal.returns-else-count-eq0-clause-some
returns-else-count-eq0-clause-some c = λ order.
    let cs = c.args.self.now.changes in
    let n = c.count-count.result in
    let split = rising_split (at cs) (length cs) _ n (at_rises c.args.self.now order) c.count-count.ensures in
    let e : n ≡ suc (n - 1) = omega arith in
    record {
      index = n - 1;
      inside = (let inside = split.inside in omega arith);
      split = subst (λ (m : ℕ). IsSplit (at cs) (length cs) c.args.instant m m) e
          (same_split (at cs) (length cs) c.args.instant _ n n (to_z-of_z w64 c.args.instant c.ranges.instant) split);
      change = c.change.ensures;
    }

pub returns-then-count-eq0-clause-none : goal.returns-then-count-eq0-clause-none
returns-then-count-eq0-clause-none c = λ order k h.
    let cs = c.args.self.now.changes in
    let split = rising_split (at cs) (length cs) _ c.count-count.result (at_rises c.args.self.now order) c.count-count.ensures in
    subst (λ (z : ℤ). z <ℤ at cs k) (to_z-of_z w64 c.args.instant c.ranges.instant) (split.above k (omega arith) h)
