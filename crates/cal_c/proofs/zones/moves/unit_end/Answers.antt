use Rattle.std.proofs.Common.{◌+◌, ◌∙◌, ap, refl, subst, arith, ℕ}
use Rattle.std.specs.Prelude.{Some}
use Rattle.cal_datetime.specs.DateTime.{date_time}
use Rattle.cal_schedule.specs.Units.{IsLastOf}
use Rattle.cal_zoned.specs.Day.{IsStart}
use Rattle.cal_zoned.specs.Unchecked.{in_zone, result_in}
use Rattle.cal_zoned.proofs.Firsts.{no_start}
use Rattle.cal_zoned.proofs.UnitEnds.{next_day}
use Rattle.cal_c.proofs.ZonedResults.{end_is, no_end}
use Rattle.cal_c.proofs.zones.moves.unit_end.Goals as goal

pub returns-in-None-next_day : goal.returns-in-None-next_day
returns-in-None-next_day c = λ order.
    let m = in_zone c.args.zone.now c.args.moment in
    let last = c.in-Some.ensures.value in
    no_end c.args.unit m _ (λ s h.
    let day = next_day c.args.unit m s c.date.result c.in-Some.value last.0 c.date.ensures.value last.1 h in
    let next = h.next in
    c.in-None-next_day.ensures.value (omega (arith, day, next))) c.error-in-None-next_day.ensures

pub returns-in-None-day_start : goal.returns-in-None-day_start
returns-in-None-day_start c = λ order.
    let z = c.args.zone.now in
    let m = in_zone z c.args.moment in
    let last = c.in-Some.ensures.value in
    no_end c.args.unit m _ (λ s h.
    let day = next_day c.args.unit m s c.date.result c.in-Some.value last.0 c.date.ensures.value last.1 h in
    no_start z z _ c.in-Some-next_day.value s refl (c.in-Some-next_day.ensures.value.1 ∙ ap (λ (n : ℕ). n + 1) day) (c.in-None-day_start.ensures order) h.start) c.error-in-None-day_start.ensures

pub returns : goal.returns
returns c = λ order.
    let z = c.args.zone.now in
    let m = in_zone z c.args.moment in
    let last = c.in-Some.ensures.value in
    let v = in_zone z c.in-Some-day_start.value in
    end_is c.args.unit m v c.nanoseconds.result (result_in z c.earlier.result) _ c.nanoseconds.ensures (record {
      day = c.in-Some.value;
      last = subst (λ (n : ℕ). IsLastOf c.args.unit n c.in-Some.value) c.date.ensures.value last.1;
      next = omega (arith, c.in-Some-next_day.ensures.value.0);
      start = subst (λ (n : ℕ). IsStart z (date_time n 0) (Some v)) c.in-Some-next_day.ensures.value.1 (c.in-Some-day_start.ensures order);
    }) (c.earlier.ensures order) (c.zoned_result.ensures z)
