use Rattle.std.proofs.Common.{sym, subst, ℕ}
use Rattle.cal_datetime.specs.DateTime.{date_at}
use Rattle.cal_datetime.specs.OffsetDateTime.{instant}
use Rattle.cal_schedule.specs.Units.{IsUntilBy}
use Rattle.cal_zoned.specs.Unchecked.{in_zone}
use Rattle.cal_zoned.specs.Until.{IsUntilInZone}
use Rattle.cal_zoned.proofs.PeriodsUntil.{no_clock_part}
use Rattle.cal_zoned.proofs.UntilInZone.{rest_is, signs_agree}
use Rattle.cal_zoned.proofs.unchecked.until.period_between.Goals as goal

pub unreachable-requires : goal.unreachable-requires
unreachable-requires c =
    let day = c.last_day-date.result.0 in
    let there = c.last_day-date.result.1 in
    let counted = subst (λ (n : ℕ). IsUntilBy c.args.largest n day c.period_until_by.result) c.date.ensures.value c.period_until_by.ensures in
    c.in-None.ensures (signs_agree c.args.largest (date_at c.args.from.local) day c.period_until_by.result (instant c.args.from) (instant c.args.to) (instant there) c.sub.result counted c.sub.ensures.0
    c.last_day-date.ensures.forward c.last_day-date.ensures.backward)

pub returns : goal.returns
returns c = λ order.
    let zone = c.args.zone.now in
    let day = c.last_day-date.result.0 in
    let there = c.last_day-date.result.1 in
    let p = c.period_until_by.result in
    let counted = subst (λ (n : ℕ). IsUntilBy c.args.largest n day p) c.date.ensures.value c.period_until_by.ensures in
    subst (IsUntilInZone c.args.policy c.args.largest (in_zone zone c.args.from) (in_zone zone c.args.to)) (sym c.in-Some.ensures.1) (record {
      whole = day;
      in_range = c.last_day-date.ensures.date;
      there = in_zone zone there;
      forward = c.last_day-date.ensures.up_to order;
      backward = c.last_day-date.ensures.back_to order;
      counted = subst (IsUntilBy c.args.largest (date_at c.args.from.local) day) (no_clock_part p c.period_until_by.ensures.no_clock) counted;
      exact = rest_is (instant c.args.to) (instant there) c.sub.result c.sub.ensures.0;
      one_sign = c.in-Some.ensures.0;
    })
