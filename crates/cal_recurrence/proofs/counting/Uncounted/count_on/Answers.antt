use Rattle.std.proofs.Common.{◌∙◌, refl, sym, ap, arith, length, take, Some}
use Rattle.std.specs.List.{last_or}
use Rattle.cal_recurrence.specs.CountedSet.{past_end}
use Rattle.cal_recurrence.proofs.Cursors.{one_read}
use Rattle.cal_recurrence.proofs.counting.Uncounted.count_on.Goals as goal

pub count-init : goal.count-init
count-init c =
    let rule = c.args.rule.now in
    let its = c.args.self.now in
    let more = c.in-Some.ensures in
    record {
      last = refl;
      counted = one_read rule rule.until its.left its.readings c.count_one.new.self.readings c.in-Some.first c.requires more.0
          ∙ ap (λ k. take k (past_end rule (Some c.in-Some.first))) (sym more.1);
      fewer = omega arith;
    }

pub count-preserved : goal.count-preserved
count-preserved c =
    let rule = c.args.rule.now in
    let at = c.count in
    let reading = c.in-Some-count_one.reading in
    let more = c.in-Some-count_one.ensures in
    record {
      last = ap (last_or (Some at.last)) (sym more.0) ∙ at.invariant.last;
      counted = one_read rule (Some at.last) at.self.left at.self.readings c.count_one-in-count.new.self.readings reading at.invariant.counted more.0
          ∙ ap (λ k. take k (past_end rule (Some reading))) (sym more.1);
      fewer = omega (arith, ap length more.0, at.invariant.fewer);
    }
