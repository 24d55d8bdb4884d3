use Rattle.std.proofs.Common.{arith, subst, ℤ, w64}
use Rattle.std.proofs.lemmas.Int.{to_z-of_z}
use Rattle.std.specs.Prelude.{length, ◌≤ℤ◌}
use Rattle.cal_zone.specs.Timeline.{at}
use Rattle.cal_zone.proofs.Orders.{at_rises}
use Rattle.cal_zone.proofs.Splits.{rising_split, same_split}
use Rattle.cal_zone.proofs.unchecked_zone.UncheckedZone.next_change.Goals as goal

pub returns-then-count-len-clause-some : goal.returns-then-count-len-clause-some
returns-then-count-len-clause-some c = λ order.
    let cs = c.args.self.now.changes in
    let n = c.count-count.result in
    record {
      index = n;
      inside = omega (arith, c.len.ensures.len);
      split = same_split (at cs) (length cs) c.args.instant _ n n (to_z-of_z w64 c.args.instant c.ranges.instant)
          (rising_split (at cs) (length cs) _ n (at_rises c.args.self.now order) c.count-count.ensures);
      change = c.change.ensures;
    }

pub returns-else-count-len-clause-none : goal.returns-else-count-len-clause-none
returns-else-count-len-clause-none c = λ order k h.
    let cs = c.args.self.now.changes in
    let split = rising_split (at cs) (length cs) _ c.count-count.result (at_rises c.args.self.now order) c.count-count.ensures in
    subst (λ (z : ℤ). at cs k ≤ℤ z) (to_z-of_z w64 c.args.instant c.ranges.instant) (split.below k (omega (arith, c.len.ensures.len)))
