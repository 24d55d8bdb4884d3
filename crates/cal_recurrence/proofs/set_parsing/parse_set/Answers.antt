use Rattle.std.proofs.Common.{◌∙◌, ap, subst, sym, refl, inl}
use Rattle.cal_recurrence.specs.SetText.{error_after, unless_error, with_line}
use Rattle.cal_recurrence.proofs.GivenSets.{set-is}
use Rattle.cal_recurrence.proofs.SetSteps.{all-said, step-error, step-on, IsProgress, IsStep}
use Rattle.cal_recurrence.proofs.set_parsing.parse_set.Goals as goal

pub returns-in-Err-clause-value : goal.returns-in-Err-clause-value
returns-in-Err-clause-value c =
    let d = c.loop-lines.draft in
    let step : IsStep c.args.text.now d c.loop-lines.position c.in-Some.left.now c.cut.result.0.now c.cut.result.1 = record {
      rest = c.in-Some.left;
      now = refl;
      before = subst (IsProgress c.args.text.now d c.loop-lines.position) c.in-Some.is c.loop-lines.invariant;
      split = c.cut.ensures.parts;
      size = c.cut.ensures.size;
    } in
    inl (step-error c.args.text.now d c.loop-lines.position c.in-Some.left.now c.cut.result.0.now c.cut.result.1 c.in-Err.reason step
    (ap (λ line. unless_error (error_after d line) (with_line d line)) (sym c.without_return.ensures) ∙ sym c.with_line.ensures ∙ c.in-Err.is))

pub loop-lines-preserved : goal.loop-lines-preserved
loop-lines-preserved c =
    let d = c.loop-lines.draft in
    let step : IsStep c.args.text.now d c.loop-lines.position c.in-Some.left.now c.cut.result.0.now c.cut.result.1 = record {
      rest = c.in-Some.left;
      now = refl;
      before = subst (IsProgress c.args.text.now d c.loop-lines.position) c.in-Some.is c.loop-lines.invariant;
      split = c.cut.ensures.parts;
      size = c.cut.ensures.size;
    } in
    step-on c.args.text.now d c.loop-lines.position c.in-Some.left.now c.cut.result.0.now c.cut.result.1 c.in-Ok.draft step
    (ap (λ line. unless_error (error_after d line) (with_line d line)) (sym c.without_return.ensures) ∙ sym c.with_line.ensures ∙ c.in-Ok.is)

pub returns-in-Some-finished-clause-spelled : goal.returns-in-Some-finished-clause-spelled
returns-in-Some-finished-clause-spelled c =
    let text = c.args.text.now in
    set-is text c.in-Some-finished.parts
    (all-said text c.loop-lines.draft c.loop-lines.position c.in-Some-finished.parts (subst (IsProgress text c.loop-lines.draft c.loop-lines.position) c.in_default.is c.loop-lines.invariant) (sym c.finished.ensures ∙ c.in-Some-finished.is))
