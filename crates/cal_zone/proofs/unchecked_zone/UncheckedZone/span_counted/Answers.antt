use Rattle.std.proofs.Common.{length, sym}
use Rattle.cal_zone.specs.Timeline.{at}
use Rattle.cal_zone.proofs.Orders.{at_rises}
use Rattle.cal_zone.proofs.Readings.{offset_between}
use Rattle.cal_zone.proofs.Splits.{rising_split}
use Rattle.cal_zone.proofs.unchecked_zone.UncheckedZone.span_counted.Goals as goal

pub returns-clause-offset : goal.returns-clause-offset
returns-clause-offset c = λ order.
    let b = c.requires in
    sym (offset_between c.args.self.now order c.args.instant _ c.args.count b.inside b.below b.above c.span_of.ensures.offset)

pub returns-clause-ends : goal.returns-clause-ends
returns-clause-ends c = λ order.
    let cs = c.args.self.now.changes in
    record {
      count = c.args.count;
      split = rising_split (at cs) (length cs) c.args.instant c.args.count (at_rises c.args.self.now order) c.requires;
      after = c.span_of.ensures.after order;
    }
