use Rattle.std.proofs.Common.{◌≡◌, ◌+◌, ◌*◌, ◌∙◌, pos, sym, ap, arith, subst, true, false}
use Rattle.cal_time.specs.SignedDuration.{day}
use Rattle.cal_datetime.specs.DateTime.{last_date_time}
use Rattle.cal_recurrence.specs.ClockPeriods.{matches_step}
use Rattle.cal_recurrence.specs.ClockSearch.{Closes, NoneSelected}
use Rattle.cal_recurrence.proofs.ClockSearches.{found, no-more, none-to}
use Rattle.cal_recurrence.proofs.date_time_rule.DateTimeRule.next_match.Goals as goal
use Rattle.cal_recurrence.proofs.date_time_rule.DateTimeRule.next_match.Goals.{then-misses-eq-MANY_MISSES, else-misses-eq-MANY_MISSES}

pub returns-then-matches-clause-value : goal.returns-then-matches-clause-value
returns-then-matches-clause-value c =
    let rule = c.args.self.now in
    let at = c.loop-found in
    let x = c.in-Some.found.0 * day + c.in-Some.found.1 in
    let on : matches_step rule.step rule.times rule.start (pos x) ≡ true =
    ap (λ r. matches_step r.step r.times r.start (pos x)) (sym c.self.view_is) ∙ sym c.matches.ensures ∙ c.if-matches.true in
    found rule (c.args.date * day + c.args.first) (at.day * day + at.from) x at.invariant.later at.invariant.none c.in-Some.ensures.value on

pub returns-then-from-last-clause-value : goal.returns-then-from-last-clause-value
returns-then-from-last-clause-value c =
    let rule = c.args.self.now in
    let at = c.loop-found in
    let m = c.args.date * day + c.args.first in
    let x = c.in-Some.found.0 * day + c.in-Some.found.1 in
    let none = no-more rule m (at.day * day + at.from) x at.invariant.none c.in-Some.ensures.value.none_before in
    at.invariant.closes (λ k low high. none k low (omega (arith, high, c.if-from-last.true, c.from.ensures, c.day_number.ensures.value)))

pub returns-in_default-next_place-clause-value : goal.returns-in_default-next_place-clause-value
returns-in_default-next_place-clause-value c =
    let rule = c.args.self.now in
    let at = c.loop-found in
    let m = c.args.date * day + c.args.first in
    let x = c.in-Some.found.0 * day + c.in-Some.found.1 in
    let off : matches_step rule.step rule.times rule.start (pos x) ≡ false =
    ap (λ r. matches_step r.step r.times r.start (pos x)) (sym c.self.view_is) ∙ sym c.matches.ensures ∙ c.if-matches.false in
    none-to rule m (at.day * day + at.from) x (last_date_time + 1) at.invariant.none c.in-Some.ensures.value off
    (subst (λ r. NoneSelected r.step r.start x (last_date_time + 1)) c.self.view_is c.in_default-next_place.ensures)

pub loop-found-preserved : goal.loop-found-preserved
loop-found-preserved c =
    let rule = c.args.self.now in
    let at = c.loop-found in
    let m = c.args.date * day + c.args.first in
    let x = c.in-Some.found.0 * day + c.in-Some.found.1 in
    let place = c.in-Some-next_place.place in
    let is = c.in-Some-next_place.ensures in
    let e = place.0 * day + place.1 in
    let off : matches_step rule.step rule.times rule.start (pos x) ≡ false =
    ap (λ r. matches_step r.step r.times r.start (pos x)) (sym c.self.view_is) ∙ sym c.matches.ensures ∙ c.if-matches.false in
    let closes : Closes rule m c.if-misses-eq-MANY_MISSES.last = elim c.if-misses-eq-MANY_MISSES.branch [
      | then-misses-eq-MANY_MISSES w ↦ subst (Closes rule m) (sym w.last-is) w.last_to_search-last.ensures
      | else-misses-eq-MANY_MISSES w ↦ subst (Closes rule m) (sym w.last-is) at.invariant.closes
    ] in
    record {
      later = omega (arith, at.invariant.later, c.in-Some.ensures.value.not_before, is.2);
      from = is.1;
      range = (at.invariant.range.0, is.0);
      closes = closes;
      none = none-to rule m (at.day * day + at.from) x e at.invariant.none c.in-Some.ensures.value off (subst (λ r. NoneSelected r.step r.start x e) c.self.view_is is.3);
    }

pub returns-clause-value : goal.returns-clause-value
returns-clause-value c =
    let at = c.loop-found in
    no-more c.args.self.now (c.args.date * day + c.args.first) (at.day * day + at.from) (last_date_time + 1) at.invariant.none c.in_default.ensures.value
