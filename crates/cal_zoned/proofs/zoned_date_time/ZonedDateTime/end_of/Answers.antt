use Rattle.std.proofs.Common.{◌+◌, ◌∙◌, ap, arith, ℕ}
use Rattle.cal_zoned.specs.Zoned.{InZone}
use Rattle.cal_zoned.proofs.Firsts.{no_start}
use Rattle.cal_zoned.proofs.UnitEnds.{next_day, next_start, no_end, none_before}
use Rattle.cal_zoned.proofs.zoned_date_time.ZonedDateTime.end_of.Goals as goal

pub returns-in_err-next-clause-none : goal.returns-in_err-next-clause-none
returns-in_err-next-clause-none c = no_end c.from_residual-in_err-next.result _ (λ s h inside.
    let day = next_day c.args.unit c.args.self.now s c.date.result c.in_ok-last_of.field-0 c.in_ok-last_of.ensures.value.0 c.date.ensures c.in_ok-last_of.ensures.value.1 h in
    let next = h.next in
    c.in_err-next.ensures.value (omega (arith, day, next)))

pub returns-in_err-start_of_day-clause-none : goal.returns-in_err-start_of_day-clause-none
returns-in_err-start_of_day-clause-none c = no_end c.from_residual-in_err-start_of_day.result _ (λ s h inside.
    let day = next_day c.args.unit c.args.self.now s c.date.result c.in_ok-last_of.field-0 c.in_ok-last_of.ensures.value.0 c.date.ensures c.in_ok-last_of.ensures.value.1 h in
    no_start c.self.inside.zone.now c.args.self.now.zone _ c.in_ok-next.next s (ap (λ (v : InZone). v.zone) c.self.view_is)
    (c.in_ok-next.ensures.value.1 ∙ ap (λ (n : ℕ). n + 1) day) c.in_err-start_of_day.ensures.start h.start)

pub returns-clause-none : goal.returns-clause-none
returns-clause-none c = none_before c.args.unit c.args.self.now c.in_ok-start_of_day.field-0 _ c.nanoseconds.result c.checked_sub.result c.nanoseconds.ensures c.checked_sub.ensures
    (λ s h. next_start c.args.unit c.args.self.now s c.in_ok-start_of_day.field-0 c.self.inside.zone.now c.date.result c.in_ok-last_of.field-0 c.in_ok-next.next c.in_ok-last_of.ensures.value.0 c.date.ensures
    c.in_ok-last_of.ensures.value.1 c.in_ok-next.ensures.value.1 (ap (λ (v : InZone). v.zone) c.self.view_is) c.in_ok-start_of_day.ensures.start h)
