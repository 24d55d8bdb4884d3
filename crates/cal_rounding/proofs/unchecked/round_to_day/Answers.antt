use Rattle.std.proofs.Common.{refl, sym, subst, ◌∙◌, ℕ, arith, Some}
use Rattle.std.proofs.lemmas.Bool.{false≢true}
use Rattle.cal_datetime.specs.DateTime.{date_time}
use Rattle.cal_zoned.specs.Day.{IsStart}
use Rattle.cal_zoned.specs.Unchecked.{in_zone}
use Rattle.cal_rounding.proofs.Starts.{near_end, near_start, no_day, no_first, no_second, not_after, to_day}
use Rattle.cal_rounding.proofs.unchecked.round_to_day.Goals as goal

pub returns-in_default-day_start : goal.returns-in_default-day_start
returns-in_default-day_start c = λ order shows.
    let m = in_zone c.args.zone.now c.args.moment in
    no_day _ m (no_first m _ c.date-date.ensures.value (c.in_default-day_start.ensures order))

pub returns-in_default-day_start-2 : goal.returns-in_default-day_start-2
returns-in_default-day_start-2 c = λ order shows.
    let m = in_zone c.args.zone.now c.args.moment in
    no_day _ m (no_second m _ _ c.date-date.ensures.value c.in-Some.ensures.value.1 (c.in_default-day_start-2.ensures order))

pub returns-then-is_rounded_to_end : goal.returns-then-is_rounded_to_end
returns-then-is_rounded_to_end c = λ order shows.
    let m = in_zone c.args.zone.now c.args.moment in
    let s = in_zone c.args.zone.now c.in-Some-day_start.start in
    let e = in_zone c.args.zone.now c.in-Some-day_start-2.end in
    let from = c.in-Some-day_start.ensures order in
    let low = not_after c.args.zone.now m s shows.offset c.date-date.ensures.in_range (subst (λ (n : ℕ). IsStart c.args.zone.now (date_time n 0) (Some s)) c.date-date.ensures.value from) in
    to_day _ m s e e _ _ c.date-date.ensures.value (omega (arith, c.in-Some.ensures.value.0)) c.in-Some.ensures.value.1 from (c.in-Some-day_start-2.ensures order)
    (near_end _ m s e _ _ _ refl refl refl low (c.is_rounded_to_end.ensures.end c.if-is_rounded_to_end.true))

pub returns-else-is_rounded_to_end : goal.returns-else-is_rounded_to_end
returns-else-is_rounded_to_end c = λ order shows.
    let m = in_zone c.args.zone.now c.args.moment in
    let s = in_zone c.args.zone.now c.in-Some-day_start.start in
    let e = in_zone c.args.zone.now c.in-Some-day_start-2.end in
    let from = c.in-Some-day_start.ensures order in
    let low = not_after c.args.zone.now m s shows.offset c.date-date.ensures.in_range (subst (λ (n : ℕ). IsStart c.args.zone.now (date_time n 0) (Some s)) c.date-date.ensures.value from) in
    to_day _ m s e s _ _ c.date-date.ensures.value (omega (arith, c.in-Some.ensures.value.0)) c.in-Some.ensures.value.1 from (c.in-Some-day_start-2.ensures order)
    (near_start _ m s e _ _ _ refl refl refl low (c.is_rounded_to_end.ensures.start (λ yes. false≢true (sym c.if-is_rounded_to_end.false ∙ yes))))
