use Rattle.std.proofs.Common.{sym, subst, ◌∙◌, ℕ, arith, Some, None}
use Rattle.std.proofs.lemmas.Bool.{false≢true}
use Rattle.cal_datetime.specs.DateTime.{IsDateTime, date_time}
use Rattle.cal_zone.specs.Timeline.{Timeline}
use Rattle.cal_zoned.specs.Day.{IsStart}
use Rattle.cal_rounding.proofs.Starts.{near_end, near_start, no_day, no_first, no_second, not_after, to_day}
use Rattle.cal_rounding.proofs.in_zone.round_to_day.Goals as goal

pub returns-in_default-start_of_day : goal.returns-in_default-start_of_day
returns-in_default-start_of_day c =
    let m = c.args.value.now in
    no_day _ m (no_first m _ c.date-date.ensures (subst (λ (t : Timeline). IsStart t (date_time c.date-date.result 0) None) c.zone.ensures c.in_default-start_of_day.ensures.start))

pub returns-in_default-start_of_day-2 : goal.returns-in_default-start_of_day-2
returns-in_default-start_of_day-2 c =
    let m = c.args.value.now in
    no_day _ m (no_second m _ _ c.date-date.ensures c.in-Some.ensures.value.1 (subst (λ (t : Timeline). IsStart t (date_time c.in-Some.next 0) None) c.zone-2.ensures c.in_default-start_of_day-2.ensures.start))

pub returns-then-is_rounded_to_end : goal.returns-then-is_rounded_to_end
returns-then-is_rounded_to_end c =
    let m = c.args.value.now in
    let s = c.in-Some-start_of_day.start in
    let e = c.in-Some-start_of_day-2.end in
    let from = subst (λ (t : Timeline). IsStart t (date_time c.date-date.result 0) (Some s)) c.zone.ensures c.in-Some-start_of_day.ensures.start in
    let to = subst (λ (t : Timeline). IsStart t (date_time c.in-Some.next 0) (Some e)) c.zone-2.ensures c.in-Some-start_of_day-2.ensures.start in
    let inside = subst IsDateTime c.local.ensures.value c.local.ensures.range in
    let low = not_after m.zone m s (sym c.offset.ensures.value ∙ c.offset.ensures.zone) inside (subst (λ (n : ℕ). IsStart m.zone (date_time n 0) (Some s)) c.date-date.ensures from) in
    to_day _ m s e e _ _ c.date-date.ensures (omega (arith, c.in-Some.ensures.value.0)) c.in-Some.ensures.value.1 from to
    (near_end _ m s e _ _ _ c.to_offset_date_time-moment.ensures c.to_offset_date_time.ensures c.to_offset_date_time-2.ensures low
    (c.is_rounded_to_end.ensures.end c.if-is_rounded_to_end.true))

pub returns-else-is_rounded_to_end : goal.returns-else-is_rounded_to_end
returns-else-is_rounded_to_end c =
    let m = c.args.value.now in
    let s = c.in-Some-start_of_day.start in
    let e = c.in-Some-start_of_day-2.end in
    let from = subst (λ (t : Timeline). IsStart t (date_time c.date-date.result 0) (Some s)) c.zone.ensures c.in-Some-start_of_day.ensures.start in
    let to = subst (λ (t : Timeline). IsStart t (date_time c.in-Some.next 0) (Some e)) c.zone-2.ensures c.in-Some-start_of_day-2.ensures.start in
    let inside = subst IsDateTime c.local.ensures.value c.local.ensures.range in
    let low = not_after m.zone m s (sym c.offset.ensures.value ∙ c.offset.ensures.zone) inside (subst (λ (n : ℕ). IsStart m.zone (date_time n 0) (Some s)) c.date-date.ensures from) in
    to_day _ m s e s _ _ c.date-date.ensures (omega (arith, c.in-Some.ensures.value.0)) c.in-Some.ensures.value.1 from to
    (near_start _ m s e _ _ _ c.to_offset_date_time-moment.ensures c.to_offset_date_time.ensures c.to_offset_date_time-2.ensures low
    (c.is_rounded_to_end.ensures.start (λ yes. false≢true (sym c.if-is_rounded_to_end.false ∙ yes))))
