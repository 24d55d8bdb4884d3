use Rattle.std.proofs.Common.{refl, subst, ℕ, arith}
use Rattle.std.specs.Prelude.{Some}
use Rattle.cal_datetime.specs.DateTime.{date_time}
use Rattle.cal_zoned.specs.Day.{IsStart}
use Rattle.cal_zoned.specs.Unchecked.{in_zone}
use Rattle.cal_zoned.proofs.Firsts.{if_none, length_of, no_start}
use Rattle.cal_zoned.proofs.unchecked.day_length.Goals as goal

pub returns-in_err-start-clause-none : goal.returns-in_err-start-clause-none
returns-in_err-start-clause-none c = λ order. if_none c.from_residual-in_err-start.result _ (λ h.
    no_start c.args.zone.now c.args.zone.now _ c.args.date h.start refl refl (c.in_err-start.ensures order) h.from)

pub returns-in_err-end-clause-none : goal.returns-in_err-end-clause-none
returns-in_err-end-clause-none c = λ order. if_none c.from_residual-in_err-end.result _ (λ h.
    no_start c.args.zone.now c.args.zone.now _ c.in_ok-next.next h.end refl c.in_ok-next.ensures.value.1 (c.in_err-end.ensures order) h.to)

pub returns-clause-value : goal.returns-clause-value
returns-clause-value c = λ order.
    length_of c.args.zone.now c.args.date c.in_ok-next.next _ _ c.sub.result c.in_ok-next.ensures.value.1
    (c.in_ok-start.ensures order) (c.in_ok-end.ensures order) c.sub.ensures.0

pub returns-clause-some : goal.returns-clause-some
returns-clause-some c = λ order. record {
  next = omega (arith, c.in_ok-next.ensures.value.0);
  start = in_zone c.args.zone.now c.in_ok-start.start;
  end = in_zone c.args.zone.now c.in_ok-end.end;
  from = c.in_ok-start.ensures order;
  to = subst (λ (k : ℕ). IsStart c.args.zone.now (date_time k 0) (Some (in_zone c.args.zone.now c.in_ok-end.end))) c.in_ok-next.ensures.value.1 (c.in_ok-end.ensures order);
}
