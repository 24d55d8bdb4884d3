use Rattle.std.proofs.Common.{◌≤◌, arith, inl, inr, rules, ◌≤ℤ◌}
use Rattle.std.proofs.lemmas.Int.{ints}
use Rattle.cal_datetime.specs.DateTime.{date_at}
use Rattle.cal_datetime.specs.OffsetDateTime.{instant}
use Rattle.cal_zoned.specs.Unchecked.{in_zone}
use Rattle.cal_zoned.specs.Until.{IsBackTo}
use Rattle.cal_zoned.proofs.UntilInZone.{none_to, stays}
use Rattle.cal_zoned.proofs.unchecked.until.last_back_to.Goals as goal

pub returns-in-Some-clause-last : goal.returns-in-Some-clause-last
returns-in-Some-clause-last c = λ order.
    let from : c.loop-to.date ≤ date_at c.args.from.local = search rules in
    record {
      moved = c.in-Some.ensures.moved order;
      in_time = c.in-Some.ensures.in_time;
      from = from;
      to = inl c.loop-to.invariant.on_way;
      last = c.loop-to.invariant.none order;
    }

pub loop-to-preserved : goal.loop-to-preserved
loop-to-preserved c =
    let is = c.day_after-date.ensures.value in
    let way = c.loop-to.invariant.on_way in
    record {
      in_range = c.day_after-date.ensures.range;
      on_way = omega (arith, is, way);
      none = λ order.
          none_to c.loop-to.date c.day_after-date.result (date_at c.args.to.local) (IsBackTo c.args.policy (in_zone c.args.zone.now c.args.from) (in_zone c.args.zone.now c.args.to)) is
          (c.in_default.ensures.none order) (c.loop-to.invariant.none order);
    }

pub returns-clause-last : goal.returns-clause-last
returns-clause-last c = λ order.
    let own = c.date-own.ensures.value in
    let done : c.date-own.result ≤ c.loop-to.date = search rules in
    let in_time : instant c.args.to ≤ℤ instant c.args.from = omega (arith, ints, c.requires) in
    record {
      moved = stays c.args.policy (in_zone c.args.zone.now c.args.from) c.date-own.result own;
      in_time = in_time;
      from = omega (arith, own);
      to = inr own;
      last = λ k past most. c.loop-to.invariant.none order k (omega (arith, done, past)) most;
    }
