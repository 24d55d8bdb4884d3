use Rattle.std.proofs.Common.{◌∙◌, Some, ap, refl, subst, sym, length}
use Rattle.cal_ics.specs.Events.{begins_event}
use Rattle.cal_ics.proofs.Searches.{begin-here, begin-on, IsSearch}
use Rattle.cal_ics.proofs.Walks.{walk-start, IsCut}
use Rattle.cal_ics.proofs.search.find_begin.Goals as goal

pub loop-rest-init : goal.loop-rest-init
loop-rest-init c = record { walk = walk-start c.args.text; none = refl }

pub returns-then-begins_event : goal.returns-then-begins_event
returns-then-begins_event c =
    let text = c.args.text.now in
    let h : IsSearch text c.loop-rest.position (Some c.in-Some.left) = subst (IsSearch text c.loop-rest.position) c.in-Some.is c.loop-rest.invariant in
    let cut : IsCut text c.loop-rest.position c.in-Some.left.now c.cut.result.0.now c.cut.result.1 =
    record { rest = c.in-Some.left; now = refl; before = h.walk; split = c.cut.ensures.parts; size = c.cut.ensures.size } in (
      length h.walk.done,
      begin-here text c.loop-rest.position c.in-Some.left.now c.cut.result.0.now c.cut.result.1 cut h.none
          (ap begins_event (sym c.without_return.ensures) ∙ sym c.begins_event.ensures ∙ c.if-begins_event.true),
    )

pub loop-rest-preserved : goal.loop-rest-preserved
loop-rest-preserved c =
    let text = c.args.text.now in
    let h : IsSearch text c.loop-rest.position (Some c.in-Some.left) = subst (IsSearch text c.loop-rest.position) c.in-Some.is c.loop-rest.invariant in
    let cut : IsCut text c.loop-rest.position c.in-Some.left.now c.cut.result.0.now c.cut.result.1 =
    record { rest = c.in-Some.left; now = refl; before = h.walk; split = c.cut.ensures.parts; size = c.cut.ensures.size } in
    begin-on text c.loop-rest.position c.in-Some.left.now c.cut.result.0.now c.cut.result.1 cut h.none
    (ap begins_event (sym c.without_return.ensures) ∙ sym c.begins_event.ensures ∙ c.if-begins_event.false)
