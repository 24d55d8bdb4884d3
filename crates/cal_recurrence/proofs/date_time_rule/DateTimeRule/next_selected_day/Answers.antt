use Rattle.std.proofs.Common.{◌≡◌, ◌+◌, ◌*◌, ◌∙◌, ap, arith, None, Some, subst}
use Rattle.cal_time.specs.Date.{last_day}
use Rattle.cal_time.specs.SignedDuration.{day}
use Rattle.cal_datetime.specs.DateTime.{last_date_time}
use Rattle.cal_schedule.specs.Rule.{is_occurrence}
use Rattle.cal_recurrence.specs.TimeSearch.{NoneIn, IsFirst, selects}
use Rattle.cal_recurrence.proofs.SelectedReadings.{days-none, first-on_day, never-selected, none-on_day, on-ranked}
use Rattle.cal_recurrence.proofs.FirstNumbers.{joined}
use Rattle.cal_recurrence.proofs.Sets.{next_day}
use Rattle.cal_recurrence.proofs.TimePositions.{days-are, per_day, ranked}
use Rattle.cal_recurrence.proofs.date_time_rule.DateTimeRule.next_selected_day.Goals as goal

pub next_on_day-requires-clause-on : goal.next_on_day-requires-clause-on
next_on_day-requires-clause-on c =
    let days = days-are _ _ _ _ _ _ _ c.self.inside.step c.self.invariant ∙ ap ranked c.self.view_is in
    let next : IsFirst (is_occurrence c.self.inside.days) (c.loop-next.last + 1) (last_day + 1) c.in-Some.next =
    next_day (is_occurrence c.self.inside.days) c.loop-next.last (Some c.in-Some.next) c.in-Some.ensures.value in
    on-ranked c.args.self.now _ c.in-Some.next days next.passes

pub returns-in-Some-next_on_day-clause-value : goal.returns-in-Some-next_on_day-clause-value
returns-in-Some-next_on_day-clause-value c =
    let days = days-are _ _ _ _ _ _ _ c.self.inside.step c.self.invariant ∙ ap ranked c.self.view_is in
    let at = c.loop-next in
    let next : IsFirst (is_occurrence c.self.inside.days) (at.last + 1) (last_day + 1) c.in-Some.next =
    next_day (is_occurrence c.self.inside.days) at.last (Some c.in-Some.next) c.in-Some.ensures.value in
    first-on_day c.args.self.now c.self.inside.days ((c.args.date + 1) * day) at.last c.in-Some.next c.in-Some-next_on_day.time days (omega arith) at.invariant.none next c.in-Some-next_on_day.ensures

pub loop-next-preserved : goal.loop-next-preserved
loop-next-preserved c =
    let days = days-are _ _ _ _ _ _ _ c.self.inside.step c.self.invariant ∙ ap ranked c.self.view_is in
    let at = c.loop-next in
    let next : IsFirst (is_occurrence c.self.inside.days) (at.last + 1) (last_day + 1) c.in-Some.next =
    next_day (is_occurrence c.self.inside.days) at.last (Some c.in-Some.next) c.in-Some.ensures.value in
    record {
      later = omega (arith, next.not_before);
      range = (at.invariant.range.0, (omega (arith, next.below)));
      none = none-on_day c.args.self.now c.self.inside.days ((c.args.date + 1) * day) at.last c.in-Some.next days at.invariant.none next c.in_default-next_on_day.ensures;
    }

pub returns-clause-value : goal.returns-clause-value
returns-clause-value c =
    let rule = c.args.self.now in
    let days = days-are _ _ _ _ _ _ _ c.self.inside.step c.self.invariant ∙ ap ranked c.self.view_is in
    let none : NoneIn (is_occurrence c.self.inside.days) (c.loop-next.last + 1) (last_day + 1) =
    next_day (is_occurrence c.self.inside.days) c.loop-next.last None c.in_default.ensures.value in
    joined (selects rule) ((c.args.date + 1) * day) ((c.loop-next.last + 1) * day) ((last_day + 1) * day) c.loop-next.invariant.none
    (days-none rule (c.loop-next.last + 1) (last_day + 1) (omega arith) (subst (λ d. NoneIn (is_occurrence d) (c.loop-next.last + 1) (last_day + 1)) days none))

pub returns-then-self-eq0-clause-value : goal.returns-then-self-eq0-clause-value
returns-then-self-eq0-clause-value c =
    let size : c.self.inside.per_day ≡ per_day c.args.self.now = c.self.invariant.count_is ∙ ap (λ r. per_day r) c.self.view_is in
    never-selected c.args.self.now ((c.args.date + 1) * day) (last_date_time + 1) (omega (arith, size))

pub returns-then-self-clause-value : goal.returns-then-self-clause-value
returns-then-self-clause-value c =
    let rule = c.args.self.now in
    let days = days-are _ _ _ _ _ _ _ c.self.inside.step c.self.invariant ∙ ap ranked c.self.view_is in
    let none : NoneIn (is_occurrence c.self.inside.days) (c.args.date + 1) (last_day + 1) =
    λ k low high. c.self.invariant.none_are c.if-self.true k (omega arith) high in
    days-none rule (c.args.date + 1) (last_day + 1) (omega (arith, c.year.ensures.in_range)) (subst (λ d. NoneIn (is_occurrence d) (c.args.date + 1) (last_day + 1)) days none)
