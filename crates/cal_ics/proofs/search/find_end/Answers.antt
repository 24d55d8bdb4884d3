use Rattle.std.proofs.Common.{◌∙◌, Some, ap, arith, refl, subst, sym, length}
use Rattle.cal_ics.specs.Events.{depth_after, ends_event, is_last, IsEnd}
use Rattle.cal_ics.proofs.Searches.{end-found, end-on, IsOpen}
use Rattle.cal_ics.proofs.Walks.{walk-start, IsCut}
use Rattle.cal_ics.proofs.search.find_end.Goals as goal

pub loop-rest-init : goal.loop-rest-init
loop-rest-init c = record { walk = walk-start c.args.lines; nested = refl; few = omega arith; none = refl }

pub returns-then-is_last : goal.returns-then-is_last
returns-then-is_last c =
    let text = c.args.lines.now in
    let depth = c.loop-rest.depth in
    let at = c.loop-rest.position in
    let more = c.cut.result.1 in
    let h : IsOpen text depth at (Some c.in-Some.left) = subst (IsOpen text depth at) c.in-Some.is c.loop-rest.invariant in
    let cut : IsCut text at c.in-Some.left.now c.cut.result.0.now more =
    record { rest = c.in-Some.left; now = refl; before = h.walk; split = c.cut.ensures.parts; size = c.cut.ensures.size } in (
      length h.walk.done,
      subst (λ b. IsEnd text (length h.walk.done) (record { position = at; is_event = b; rest = more })) (ap ends_event (sym c.without_return-text.ensures) ∙ sym c.ends_event.ensures)
          (end-found text depth at c.in-Some.left.now c.cut.result.0.now more cut h.nested h.none
          (ap (is_last depth) (sym c.without_return-text.ensures) ∙ sym c.is_last.ensures ∙ c.if-is_last.true)),
    )

pub loop-rest-preserved : goal.loop-rest-preserved
loop-rest-preserved c =
    let text = c.args.lines.now in
    let depth = c.loop-rest.depth in
    let at = c.loop-rest.position in
    let more = c.cut.result.1 in
    let h : IsOpen text depth at (Some c.in-Some.left) = subst (IsOpen text depth at) c.in-Some.is c.loop-rest.invariant in
    let cut : IsCut text at c.in-Some.left.now c.cut.result.0.now more =
    record { rest = c.in-Some.left; now = refl; before = h.walk; split = c.cut.ensures.parts; size = c.cut.ensures.size } in
    end-on text depth at c.in-Some.left.now c.cut.result.0.now more cut h.nested h.few h.none
    (ap (is_last depth) (sym c.without_return-text.ensures) ∙ sym c.is_last.ensures ∙ c.if-is_last.false)
    c.depth_after-depth.result (c.depth_after-depth.ensures.value ∙ ap (depth_after depth) c.without_return-text.ensures) c.depth_after-depth.ensures.max
