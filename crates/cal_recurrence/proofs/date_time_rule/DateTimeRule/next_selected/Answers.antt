use Rattle.std.proofs.Common.{◌+◌, ◌*◌, ◌∙◌, refl, sym, ap, arith}
use Rattle.cal_time.specs.SignedDuration.{day}
use Rattle.cal_recurrence.specs.TimeSearch.{NoneIn, selects}
use Rattle.cal_recurrence.proofs.SelectedReadings.{carry-on, day-none, here, off-ranked, on-ranked, rest-none}
use Rattle.cal_recurrence.proofs.TimePositions.{days-are, ranked}
use Rattle.cal_recurrence.proofs.date_time_rule.DateTimeRule.next_selected.Goals as goal
use Rattle.cal_recurrence.proofs.date_time_rule.DateTimeRule.next_selected.Goals.{then-contains+in_default, else-contains}

pub next_on_day-requires-clause-on : goal.next_on_day-requires-clause-on
next_on_day-requires-clause-on c =
    let days = days-are _ _ _ _ _ _ _ c.self.inside.step c.self.invariant ∙ ap ranked c.self.view_is in
    on-ranked c.args.self.now _ c.args.date days (sym c.contains.ensures.value ∙ c.if-contains.true)

pub returns-in-Some-clause-value : goal.returns-in-Some-clause-value
returns-in-Some-clause-value c =
    let days = days-are _ _ _ _ _ _ _ c.self.inside.step c.self.invariant ∙ ap ranked c.self.view_is in
    here c.args.self.now c.args.date c.args.first c.in-Some.time _ c.contains.ensures.in_range
    (on-ranked c.args.self.now _ c.args.date days (sym c.contains.ensures.value ∙ c.if-contains.true)) refl c.in-Some.ensures

pub returns-clause-value : goal.returns-clause-value
returns-clause-value c =
    let rule = c.args.self.now in
    let date = c.args.date in
    let first = c.args.first in
    let days = days-are _ _ _ _ _ _ _ c.self.inside.step c.self.invariant ∙ ap ranked c.self.view_is in
    let none : NoneIn (selects rule) (date * day + first) ((date + 1) * day) = elim c.if-contains.branch [
      | then-contains+in_default w ↦ rest-none rule date first w.in_default.ensures
      | else-contains w ↦ day-none rule date first c.contains.ensures.in_range (off-ranked rule _ date days (sym c.contains.ensures.value ∙ w.if-contains.false))
    ] in
    carry-on rule (date * day + first) ((date + 1) * day) c.next_selected_day.result (omega (arith, c.requires)) none c.next_selected_day.ensures.value
