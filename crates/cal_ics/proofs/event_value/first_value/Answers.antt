use Rattle.std.proofs.Common.{◌∙◌, Some, ap, arith, refl, subst, sym}
use Rattle.cal_ics.specs.EventSet.{has_name}
use Rattle.cal_ics.specs.Events.{depth_after}
use Rattle.cal_ics.proofs.Searches.{value-found, value-on, IsUnnamed}
use Rattle.cal_ics.proofs.Walks.{walk-start, IsCut}
use Rattle.cal_recurrence.specs.Words.{rest_outside}
use Rattle.cal_ics.proofs.event_value.first_value.Goals as goal

pub loop-rest-init : goal.loop-rest-init
loop-rest-init c = record { walk = walk-start c.args.lines; nested = refl; few = omega arith; none = refl }

pub returns-then-has_name : goal.returns-then-has_name
returns-then-has_name c =
    let text = c.args.lines.now in
    let name = c.args.name.now in
    let depth = c.loop-rest.depth in
    let at = c.loop-rest.position in
    let h : IsUnnamed text name depth at (Some c.in-Some.left) = subst (IsUnnamed text name depth at) c.in-Some.is c.loop-rest.invariant in
    let cut : IsCut text at c.in-Some.left.now c.cut.result.0.now c.cut.result.1 =
    record { rest = c.in-Some.left; now = refl; before = h.walk; split = c.cut.ensures.parts; size = c.cut.ensures.size } in
    ap Some (c.value_on.ensures ∙ ap (rest_outside 58) c.without_return-text.ensures)
    ∙ sym (value-found text name depth at c.in-Some.left.now c.cut.result.0.now c.cut.result.1 cut h.nested h.none
    (ap (has_name depth name) (sym c.without_return-text.ensures) ∙ sym c.has_name.ensures ∙ c.if-has_name.true))

pub loop-rest-preserved : goal.loop-rest-preserved
loop-rest-preserved c =
    let text = c.args.lines.now in
    let name = c.args.name.now in
    let depth = c.loop-rest.depth in
    let at = c.loop-rest.position in
    let h : IsUnnamed text name depth at (Some c.in-Some.left) = subst (IsUnnamed text name depth at) c.in-Some.is c.loop-rest.invariant in
    let cut : IsCut text at c.in-Some.left.now c.cut.result.0.now c.cut.result.1 =
    record { rest = c.in-Some.left; now = refl; before = h.walk; split = c.cut.ensures.parts; size = c.cut.ensures.size } in
    value-on text name depth at c.in-Some.left.now c.cut.result.0.now c.cut.result.1 cut h.nested h.few h.none
    (ap (has_name depth name) (sym c.without_return-text.ensures) ∙ sym c.has_name.ensures ∙ c.if-has_name.false)
    c.depth_after-depth.result (c.depth_after-depth.ensures.value ∙ ap (depth_after depth) c.without_return-text.ensures) c.depth_after-depth.ensures.max
