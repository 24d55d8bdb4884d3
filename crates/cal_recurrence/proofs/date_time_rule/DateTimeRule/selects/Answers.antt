use Rattle.std.proofs.Common.{◌∙◌, sym, ap, arith, subst}
use Rattle.cal_time.specs.SignedDuration.{day}
use Rattle.cal_recurrence.specs.TimeSearch.{IsFirst, selects_time}
use Rattle.cal_recurrence.proofs.SelectedReadings.{is-selected, not-selected, on-ranked}
use Rattle.cal_recurrence.proofs.TimePositions.{days-are, ranked}
use Rattle.cal_recurrence.proofs.date_time_rule.DateTimeRule.selects.Goals as goal

pub returns-then-not-contains : goal.returns-then-not-contains
returns-then-not-contains c =
    let days = days-are _ _ _ _ _ _ _ c.self.inside.step c.self.invariant ∙ ap ranked c.self.view_is in
    not-selected c.args.self.now _ c.args.date c.args.time days c.contains.ensures.in_range (omega arith) (sym c.contains.ensures.value ∙ c.if-not-contains.true)

pub next_on_day-requires-clause-on : goal.next_on_day-requires-clause-on
next_on_day-requires-clause-on c =
    let days = days-are _ _ _ _ _ _ _ c.self.inside.step c.self.invariant ∙ ap ranked c.self.view_is in
    on-ranked c.args.self.now _ c.args.date days (sym c.contains.ensures.value ∙ c.if-not-contains.false)

pub returns-in-Some : goal.returns-in-Some
returns-in-Some c =
    let rule = c.args.self.now in
    let days = days-are _ _ _ _ _ _ _ c.self.inside.step c.self.invariant ∙ ap ranked c.self.view_is in
    is-selected rule c.args.date c.args.time c.in-Some.next c.eq.result (omega (arith, c.nanoseconds-first.ensures))
    (on-ranked rule _ c.args.date days (sym c.contains.ensures.value ∙ c.if-not-contains.false))
    (subst (λ t. IsFirst (selects_time rule c.args.date) t day c.in-Some.next) c.nanoseconds-first.ensures.value c.in-Some.ensures) c.eq.ensures
