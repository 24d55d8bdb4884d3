use Rattle.std.proofs.Common.{◌∙◌, Some, ap, arith, inl, refl, subst, sym}
use Rattle.cal_ics.specs.EventSet.{set_line}
use Rattle.cal_ics.specs.Events.{depth_after}
use Rattle.cal_recurrence.specs.SetText.{error_after, unless_error, with_line}
use Rattle.cal_ics.proofs.SetSteps.{step-error, step-on, IsProgress, IsStep}
use Rattle.cal_ics.proofs.Walks.{walk-start, IsCut}
use Rattle.cal_ics.proofs.event_set.parse_event_set.Goals as goal

pub loop-rest-init : goal.loop-rest-init
loop-rest-init c = record { walk = walk-start c.args.lines; nested = refl; few = omega arith; valid = λ k. refl; draft = c.new-draft.ensures }

pub returns-in-Err : goal.returns-in-Err
returns-in-Err c =
    let text = c.args.lines.now in
    let depth = c.loop-rest.depth in
    let at = c.loop-rest.position in
    let d = c.loop-rest.draft in
    let h : IsProgress text d depth at (Some c.in-Some.left) = subst (IsProgress text d depth at) c.in-Some.is c.loop-rest.invariant in
    let cut : IsCut text at c.in-Some.left.now c.cut.result.0.now c.cut.result.1 =
    record { rest = c.in-Some.left; now = refl; before = h.walk; split = c.cut.ensures.parts; size = c.cut.ensures.size } in
    let step : IsStep text d depth at c.in-Some.left.now c.cut.result.0.now c.cut.result.1 =
    record { cut = cut; nested = h.nested; few = h.few; valid = h.valid; draft = h.draft } in
    inl (step-error text d depth at c.in-Some.left.now c.cut.result.0.now c.cut.result.1 c.in-Err.reason step
    (ap (λ line. unless_error (error_after d (set_line depth line)) (with_line d (set_line depth line))) (sym c.without_return-text.ensures)
    ∙ ap (λ line. unless_error (error_after d line) (with_line d line)) (sym c.set_line.ensures) ∙ sym c.with_line.ensures ∙ c.in-Err.is))

pub loop-rest-preserved : goal.loop-rest-preserved
loop-rest-preserved c =
    let text = c.args.lines.now in
    let depth = c.loop-rest.depth in
    let at = c.loop-rest.position in
    let d = c.loop-rest.draft in
    let h : IsProgress text d depth at (Some c.in-Some.left) = subst (IsProgress text d depth at) c.in-Some.is c.loop-rest.invariant in
    let cut : IsCut text at c.in-Some.left.now c.cut.result.0.now c.cut.result.1 =
    record { rest = c.in-Some.left; now = refl; before = h.walk; split = c.cut.ensures.parts; size = c.cut.ensures.size } in
    let step : IsStep text d depth at c.in-Some.left.now c.cut.result.0.now c.cut.result.1 =
    record { cut = cut; nested = h.nested; few = h.few; valid = h.valid; draft = h.draft } in
    step-on text d depth at c.in-Some.left.now c.cut.result.0.now c.cut.result.1 c.in-Ok.draft step
    (ap (λ line. unless_error (error_after d (set_line depth line)) (with_line d (set_line depth line))) (sym c.without_return-text.ensures)
    ∙ ap (λ line. unless_error (error_after d line) (with_line d line)) (sym c.set_line.ensures) ∙ sym c.with_line.ensures ∙ c.in-Ok.is)
    c.depth_after-depth.result (c.depth_after-depth.ensures.value ∙ ap (depth_after depth) c.without_return-text.ensures) c.depth_after-depth.ensures.max
